use Rattle.std.proofs.Common.{◌≤◌, ◌++◌, ◌∙◌, ℕ, List, length, drop, refl, sym, ap, subst, slice_range, arith}
use Rattle.std.specs.List.Sorted.{IsStrictlySortedBy}
use Rattle.flp_report.specs.Nonces.{nonces_in}
use Rattle.flp_known.specs.Among.{any_among}
use Rattle.flp_known.specs.Order.{with_nonces}
use Rattle.flp_known.specs.Met.{met_in}
use Rattle.flp_known.specs.Claims.{claim_line, claim_lines}
use Rattle.flp_known.proofs.MergeLemmas.{compare, apart-both, rises-on, merged-lines}
use Rattle.flp_known.proofs.PutsLemmas.{UpTo-none, UpTo-more, UpTo-stop, UpTo-end}
use Rattle.flp_known.proofs.RangeLemmas.{slice_range-all}
use Rattle.flp_known.proofs.met.Met.put_claims.Goals as goal

pub loop-nonce-init : goal.loop-nonce-init
loop-nonce-init g c =
    let claims = nonces_in c.args.claims.now in
    let gives = c.into_iter-nonce-iterator.ensures.into_iter_gives in
    let rest = c.into_iter-nonce-iterator.result in (
      omega arith,
      subst (IsStrictlySortedBy compare) (sym gives.0) gives.4,
      ap (any_among claims) gives.0 ∙ c.requires.apart,
      UpTo-none c.args.sink.now c.args.block.now (claim_lines (with_nonces claims (met_in c.args.self.now))) (claim_lines (with_nonces claims rest))
          (ap (λ (l : List (List ℕ)). claim_lines (with_nonces claims l)) (sym gives.0)) c.requires.ready,
    )

pub returns-in_err-put_claims_within : goal.returns-in_err-put_claims_within
returns-in_err-put_claims_within g c =
    let claims = nonces_in c.args.claims.now in
    let rest = c.loop-nonce.nonce-iterator in
    let kept = c.loop-nonce.invariant in
    let found = c.first_not_below-end in
    let later = claim_line c.in-Some.nonce.now ++ claim_lines (with_nonces (drop found.result claims) c.next.new.self) in
    UpTo-stop (claim_lines (with_nonces (drop c.loop-nonce.next claims) rest)) (claim_lines (slice_range claims c.loop-nonce.next found.result)) later
    (merged-lines claims c.loop-nonce.next found.result rest c.in-Some.nonce.now c.next.new.self c.in-Some.ensures.steps found.ensures.place.0 kept.1 kept.2 found.ensures.below found.ensures.stop)
    kept.3 c.in_err-put_claims_within.ensures refl c.from_residual.ensures.0

pub returns-in_err-put_claim : goal.returns-in_err-put_claim
returns-in_err-put_claim g c =
    let claims = nonces_in c.args.claims.now in
    let rest = c.loop-nonce.nonce-iterator in
    let kept = c.loop-nonce.invariant in
    let found = c.first_not_below-end in
    let others = claim_lines (with_nonces (drop found.result claims) c.next.new.self) in
    let later = claim_line c.in-Some.nonce.now ++ others in
    UpTo-stop later (claim_line c.in-Some.nonce.now) others refl
    (UpTo-more (claim_lines (with_nonces (drop c.loop-nonce.next claims) rest)) (claim_lines (slice_range claims c.loop-nonce.next found.result)) later
    (merged-lines claims c.loop-nonce.next found.result rest c.in-Some.nonce.now c.next.new.self c.in-Some.ensures.steps found.ensures.place.0 kept.1 kept.2 found.ensures.below found.ensures.stop)
    kept.3 c.in_ok-put_claims_within.ensures)
    c.in_err-put_claim.ensures refl c.from_residual-in_err-put_claim.ensures.0

pub loop-nonce-preserved : goal.loop-nonce-preserved
loop-nonce-preserved g c =
    let claims = nonces_in c.args.claims.now in
    let rest = c.loop-nonce.nonce-iterator in
    let kept = c.loop-nonce.invariant in
    let found = c.first_not_below-end in
    let others = claim_lines (with_nonces (drop found.result claims) c.next.new.self) in
    let later = claim_line c.in-Some.nonce.now ++ others in (
      found.ensures.place.1,
      rises-on rest c.in-Some.nonce.now c.next.new.self c.in-Some.ensures.steps kept.1,
      (apart-both claims rest c.in-Some.nonce.now c.next.new.self c.in-Some.ensures.steps kept.2).1,
      UpTo-more later (claim_line c.in-Some.nonce.now) others refl
          (UpTo-more (claim_lines (with_nonces (drop c.loop-nonce.next claims) rest)) (claim_lines (slice_range claims c.loop-nonce.next found.result)) later
          (merged-lines claims c.loop-nonce.next found.result rest c.in-Some.nonce.now c.next.new.self c.in-Some.ensures.steps found.ensures.place.0 kept.1 kept.2 found.ensures.below found.ensures.stop)
          kept.3 c.in_ok-put_claims_within.ensures)
          c.in_ok-put_claim.ensures,
    )

pub returns : goal.returns
returns g c =
    let claims = nonces_in c.args.claims.now in
    let rest = c.loop-nonce.nonce-iterator in
    let next = c.loop-nonce.next in
    let cut = c.held_parts.ensures.nonces c.args.claims.now in
    let all : length claims ≤ c.len.result = omega (arith, cut.number, c.len.ensures) in
    UpTo-end (claim_lines (with_nonces (drop next claims) rest)) (claim_lines (slice_range claims next c.len.result))
    (ap claim_lines (ap (with_nonces (drop next claims)) c.in-None.ensures.steps.0 ∙ sym (slice_range-all claims next c.len.result all)))
    c.loop-nonce.invariant.3 c.put_claims_within-2.ensures
