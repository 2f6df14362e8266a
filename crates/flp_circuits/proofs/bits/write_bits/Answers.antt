use Rattle.std.proofs.Common.{length, ◌<◌, ◌≤◌, arith}
use Rattle.flp_circuits.proofs.BitLemmas.{bits_of-more, bits_of-all}
use Rattle.flp_circuits.proofs.bits.write_bits.Goals as goal

pub loop-bit-preserved : goal.loop-bit-preserved
loop-bit-preserved c =
    let here : c.loop-bit.bit-index < length c.loop-bit.out = omega arith in
    rw c.lowest_bit.ensures (bits_of-more c.loop-bit.out c.loop-bit.bit-index c.loop-bit.rest _ here c.loop-bit.invariant)

pub returns : goal.returns
returns c =
    let all : length c.loop-bit.out ≤ c.loop-bit.bit-index = omega arith in
    bits_of-all c.loop-bit.out c.loop-bit.bit-index c.loop-bit.rest _ all c.loop-bit.invariant
