use Rattle.std.proofs.Common.{◌+◌, refl, ap, slice_range}
use Rattle.flp_report.specs.Nonces.{nonces_in}
use Rattle.flp_known.specs.Claims.{claim_line, claim_lines}
use Rattle.flp_known.proofs.PutsLemmas.{UpTo-none, UpTo-more, UpTo-stop}
use Rattle.flp_known.proofs.RangeLemmas.{slice_range-first}
use Rattle.flp_known.proofs.claims.put_claims_within.Goals as goal

pub loop-number-init : goal.loop-number-init
loop-number-init g c =
    let text = claim_lines (slice_range (nonces_in c.args.claims.now) c.args.from c.args.to) in
    UpTo-none c.args.sink.now c.args.block.now text text refl c.requires.ready

pub returns-in_err-put_claim : goal.returns-in_err-put_claim
returns-in_err-put_claim g c =
    let claims = nonces_in c.args.claims.now in
    let number = c.loop-number.number in
    UpTo-stop (claim_lines (slice_range claims number c.args.to)) (claim_line c.at.result.now) (claim_lines (slice_range claims (number + 1) c.args.to))
    (ap claim_lines (slice_range-first claims c.at.result.now number c.args.to c.loop-number-test.true c.at.ensures.numbered))
    c.loop-number.invariant c.in_err-put_claim.ensures refl c.from_residual.ensures.0

pub loop-number-preserved : goal.loop-number-preserved
loop-number-preserved g c =
    let claims = nonces_in c.args.claims.now in
    let number = c.loop-number.number in
    UpTo-more (claim_lines (slice_range claims number c.args.to)) (claim_line c.at.result.now) (claim_lines (slice_range claims (number + 1) c.args.to))
    (ap claim_lines (slice_range-first claims c.at.result.now number c.args.to c.loop-number-test.true c.at.ensures.numbered))
    c.loop-number.invariant c.in_ok-put_claim.ensures
