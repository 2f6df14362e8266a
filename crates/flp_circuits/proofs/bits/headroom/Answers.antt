use Rattle.std.proofs.Common.{refl, arith}
use Rattle.flp_circuits.specs.Bits.{headroom}
use Rattle.flp_circuits.proofs.BitLemmas.{bit_length-is, bit_length-below, headroom-below, shifted}
use Rattle.flp_circuits.proofs.bits.headroom.Goals as goal

pub overflow_shl-result : goal.overflow_shl-result
overflow_shl-result c = omega (arith, bit_length-below c.args.n 63 c.requires)

pub overflow_sub-result : goal.overflow_sub-result
overflow_sub-result c = rw (c.bit_length.ensures.same, shifted c.args.n c.requires) (omega (arith, (bit_length-is c.args.n).0))

pub overflow_sub-result-2 : goal.overflow_sub-result-2
overflow_sub-result-2 c = rw (c.bit_length.ensures.same, shifted c.args.n c.requires) (omega (arith, (bit_length-is c.args.n).0))

pub returns-clause-same : goal.returns-clause-same
unfolding headroom
returns-clause-same c = rw (c.bit_length.ensures.same, shifted c.args.n c.requires) refl

pub returns-clause-limit : goal.returns-clause-limit
unfolding headroom
returns-clause-limit c = rw (c.bit_length.ensures.same, shifted c.args.n c.requires) (omega (arith, headroom-below c.args.n c.requires))
