use Rattle.std.proofs.Common.{◌-◌, ◌≡◌, ◌++◌, length, take}
use Rattle.flp_circuits.specs.Bits.{bits_of}
use Rattle.flp_circuits.proofs.bits.write_bits.Given as goal

-- what is written, and the bits of the rest, are the bits of n
abbrev pub invariant-loop-bit : goal.invariant-loop-bit
invariant-loop-bit l = take l.bit-index l.out ++ bits_of (length l.out - l.bit-index) l.rest ≡ bits_of (length l.initial.out) l.fn.n
