use Rattle.std.proofs.Common.{◌≤◌, slice_range}
use Rattle.std.specs.List.{AllPass}
use Rattle.flp_report.specs.Nonces.{nonces_in}
use Rattle.flp_known.specs.Order.{is_below}
use Rattle.flp_known.proofs.claims.first_not_below.Given as goal

abbrev pub invariant-loop-number : goal.invariant-loop-number
invariant-loop-number l = (l.from ≤ l.number) × AllPass (λ claim. is_below claim l.nonce) (slice_range (nonces_in l.claims) l.from l.number)
