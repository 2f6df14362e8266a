use Rattle.std.proofs.Common.{◌-◌, ◌≤◌}
use Rattle.flp_report.specs.Nonces.{nonce_count, nonces_in}
use Rattle.flp_known.proofs.BisectLemmas.{IsBetween}
use Rattle.flp_known.proofs.claims.is_claim.Given as goal

abbrev pub invariant-loop-low : goal.invariant-loop-low
invariant-loop-low l = (l.high ≤ nonce_count l.claims) × IsBetween l.low l.high (nonces_in l.claims) l.nonce

abbrev pub decreases-loop-low : goal.decreases-loop-low
decreases-loop-low l = l.high - l.low
