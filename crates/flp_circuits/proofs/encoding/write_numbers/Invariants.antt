use Rattle.std.proofs.Common.{◌*◌, ◌≡◌, take}
use Rattle.std.specs.List.{flat_map}
use Rattle.flp_circuits.specs.Bits.{bits_of}
use Rattle.flp_circuits.proofs.encoding.write_numbers.Given as goal

-- the bits of the numbers so far are written
abbrev pub invariant-loop-n : goal.invariant-loop-n
invariant-loop-n l = (l.at ≡ l.n-index * l.bits) × (take l.at l.out ≡ flat_map (bits_of l.bits) (take l.n-index l.input))
