use Rattle.std.proofs.Common.{not, sym, ap, ◌∙◌}
use Rattle.std.specs.Ordering.{nat_cmp}
use Rattle.std.specs.Cmp.Lexicographic.{slice_cmp, nat_list_cmp_total}
use Rattle.std.proofs.lemmas.Map.Lookups.{exact_bytes}
use Rattle.flp_report.specs.Nonces.{nonces_in}
use Rattle.flp_known.specs.Among.{is_among, any_among}
use Rattle.flp_known.specs.Order.{with_nonce, with_nonces}
use Rattle.flp_known.specs.Met.{met_in}
use Rattle.flp_known.proofs.InsertLemmas.{inserts-insert}
use Rattle.flp_known.proofs.RisingLemmas.{with_nonces-known}
use Rattle.flp_known.proofs.MergeLemmas.{apart-more}
use Rattle.flp_known.proofs.MetLemmas.{known-claim, known-other}
use Rattle.flp_known.proofs.met.Met.add.Goals as goal

pub returns-then-is_claim-clause-new : goal.returns-then-is_claim-clause-new
returns-then-is_claim-clause-new c =
    let claims = nonces_in c.args.claims.now in
    ap not (sym (known-claim claims (met_in c.args.self.now) c.args.nonce.now (sym c.is_claim.ensures ∙ c.if-is_claim.true)))

pub returns-then-is_claim-clause-added : goal.returns-then-is_claim-clause-added
returns-then-is_claim-clause-added c =
    let claims = nonces_in c.args.claims.now in
    sym (with_nonces-known claims (met_in c.args.self.now) c.args.nonce.now (c.held_parts.ensures.rising c.args.claims.now) (sym c.is_claim.ensures ∙ c.if-is_claim.true))

pub returns-clause-new : goal.returns-clause-new
returns-clause-new c =
    let claims = nonces_in c.args.claims.now in
    let keys = met_in c.args.self.now in
    c.in_ok-insert.ensures.added
    ∙ ap not (sym (known-other claims keys c.array_of.result (ap (is_among claims) c.array_of.ensures ∙ (sym c.is_claim.ensures ∙ c.if-is_claim.false)))
    ∙ ap (is_among (with_nonces claims keys)) c.array_of.ensures)

pub returns-clause-added : goal.returns-clause-added
returns-clause-added c =
    let claims = nonces_in c.args.claims.now in
    let keys = met_in c.args.self.now in
    ap (with_nonces claims) c.in_ok-insert.ensures.keys
    ∙ (inserts-insert (slice_cmp nat_cmp) nat_list_cmp_total exact_bytes claims keys c.array_of.result
    ∙ ap (with_nonce (with_nonces claims keys)) c.array_of.ensures)

pub returns-clause-apart : goal.returns-clause-apart
returns-clause-apart c = λ apart.
    let claims = nonces_in c.args.claims.now in
    let keys = met_in c.args.self.now in
    ap (any_among claims) c.in_ok-insert.ensures.keys
    ∙ apart-more claims keys c.array_of.result (ap (is_among claims) c.array_of.ensures ∙ (sym c.is_claim.ensures ∙ c.if-is_claim.false)) apart
