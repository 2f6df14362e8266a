use Rattle.std.proofs.Common.{◌≡◌, ◌*◌, ◌^◌, ◌<◌, All, take}
use Rattle.std.specs.List.{flat_map}
use Rattle.flp_circuits.specs.Bits.{bits_of}
use Rattle.flp_joint.proofs.decoding.read_numbers.Given as goal

-- the numbers so far are read
abbrev pub invariant-loop-n : goal.invariant-loop-n
invariant-loop-n l =
    (l.at ≡ l.n-index * l.bits) × All (λ n. n < 2 ^ l.bits) (take l.n-index l.out) × (flat_map (bits_of l.bits) (take l.n-index l.out) ≡ take l.at l.x)
