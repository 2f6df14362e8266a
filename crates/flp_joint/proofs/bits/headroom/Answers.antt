use Rattle.std.proofs.Common.{refl, arith}
use Rattle.flp_circuits.specs.Bits.{headroom}
use Rattle.flp_joint.proofs.BitLemmas.{length_limit, headroom_is, shifted}
use Rattle.flp_joint.proofs.bits.headroom.Goals as goal

pub overflow_shl-result : goal.overflow_shl-result
overflow_shl-result c = omega (arith, length_limit c.bit_lengths.ensures c.args.n c.requires.limit, c.requires.length)

pub overflow_sub-result : goal.overflow_sub-result
overflow_sub-result c = rw (shifted c.bit_lengths.ensures c.args.n c.args.bits c.requires.limit c.requires.length) (omega (arith, headroom_is c.bit_lengths.ensures c.args.n))

pub overflow_sub-result-2 : goal.overflow_sub-result-2
overflow_sub-result-2 c = rw (shifted c.bit_lengths.ensures c.args.n c.args.bits c.requires.limit c.requires.length) (omega (arith, headroom_is c.bit_lengths.ensures c.args.n))

pub returns : goal.returns
unfolding headroom
returns c = rw (shifted c.bit_lengths.ensures c.args.n c.args.bits c.requires.limit c.requires.length) refl
