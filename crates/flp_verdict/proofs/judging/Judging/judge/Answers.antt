use Rattle.std.proofs.Common.{◌∙◌, ℕ, List, map, refl, sym, ap}
use Rattle.flp_report.specs.Record.{record_of, nonce_in}
use Rattle.flp_known.specs.Among.{is_among}
use Rattle.flp_known.specs.Order.{with_nonce, with_nonces}
use Rattle.flp_known.specs.Met.{met_in}
use Rattle.flp_verdict.specs.Verdicts.{known_behind}
use Rattle.flp_verdict.specs.Judging.{program_of, record_shape_of, old_claims_of}
use Rattle.flp_verdict.proofs.FollowsLemmas.{Follows-more, verdict-new, verdict-known}
use Rattle.flp_verdict.proofs.judging.Judging.judge.Goals as goal

pub returns-then-branch-clause-verdict : goal.returns-then-branch-clause-verdict
returns-then-branch-clause-verdict c = λ earlier follows.
    let j = c.args.self.now in
    let claims = old_claims_of j in
    c.verify_record.ensures.verdict
    ∙ verdict-new (program_of j) (record_shape_of j) claims earlier (record_of c.args.given.now) _
    (ap (λ (known : List (List ℕ)). is_among known c.nonce.result.now) follows.known
    ∙ (c.added.ensures.members claims (map nonce_in earlier) c.nonce.result.now ∙ ap (is_among (known_behind claims earlier)) c.nonce.ensures))
    (sym c.if-branch.true ∙ c.in_ok-add.ensures.new)

pub returns-then-branch-clause-follows : goal.returns-then-branch-clause-follows
returns-then-branch-clause-follows c = λ earlier follows.
    let j = c.args.self.now in
    Follows-more j _ earlier (record_of c.args.given.now) refl follows
    (c.in_ok-add.ensures.added ∙ ap (with_nonce (with_nonces (old_claims_of j) (met_in j.met))) c.nonce.ensures)

pub returns-else-branch-clause-verdict : goal.returns-else-branch-clause-verdict
returns-else-branch-clause-verdict c = λ earlier follows.
    let j = c.args.self.now in
    let claims = old_claims_of j in
    verdict-known (program_of j) (record_shape_of j) claims earlier (record_of c.args.given.now) _
    (ap (λ (known : List (List ℕ)). is_among known c.nonce.result.now) follows.known
    ∙ (c.added.ensures.members claims (map nonce_in earlier) c.nonce.result.now ∙ ap (is_among (known_behind claims earlier)) c.nonce.ensures))
    (sym c.if-branch.false ∙ c.in_ok-add.ensures.new)

pub returns-else-branch-clause-follows : goal.returns-else-branch-clause-follows
returns-else-branch-clause-follows c = λ earlier follows.
    let j = c.args.self.now in
    Follows-more j _ earlier (record_of c.args.given.now) refl follows
    (c.in_ok-add.ensures.added ∙ ap (with_nonce (with_nonces (old_claims_of j) (met_in j.met))) c.nonce.ensures)
