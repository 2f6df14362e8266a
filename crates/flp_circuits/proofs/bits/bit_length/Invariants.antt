use Rattle.std.proofs.Common.{ℕ, ◌+◌, ◌*◌, ◌^◌, ◌<◌, ◌≤◌}
use Rattle.flp_circuits.proofs.bits.bit_length.Given as goal

-- the rest is n without its lowest bits, and no exponent below their count has a power above n
abbrev pub invariant-loop-rest : goal.invariant-loop-rest
invariant-loop-rest l = (l.rest * 2 ^ l.bits ≤ l.fn.n) × (l.fn.n < (l.rest + 1) * 2 ^ l.bits) × ((k : ℕ) → l.fn.n < 2 ^ k → l.bits ≤ k)

abbrev pub decreases-loop-rest : goal.decreases-loop-rest
decreases-loop-rest l = l.rest
