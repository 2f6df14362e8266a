use Rattle.std.proofs.Common.{◌-◌, ◌^◌, ◌<◌, ◌≤◌, ◌≡◌, length, drop}
use Rattle.flp_circuits.specs.Bits.{bits_of}
use Rattle.flp_joint.proofs.bits.number_of.Given as goal

-- the number of the bits from this place on
abbrev pub invariant-loop-left : goal.invariant-loop-left
invariant-loop-left l = (l.left ≤ length l.bits) × (l.number < 2 ^ (length l.bits - l.left)) × (bits_of (length l.bits - l.left) l.number ≡ drop l.left l.bits)

abbrev pub decreases-loop-left : goal.decreases-loop-left
decreases-loop-left l = l.left
