use Rattle.std.proofs.Common.{arith}
use Rattle.flp_circuits.proofs.BitLemmas.{drops_bit, dropped-all}
use Rattle.flp_circuits.proofs.bits.bit_length.Goals as goal

pub overflow_add-bits : goal.overflow_add-bits
overflow_add-bits c = omega (arith, c.loop-rest.invariant.2 64)

pub loop-rest-preserved : goal.loop-rest-preserved
loop-rest-preserved c = drops_bit c.args.n c.loop-rest.rest c.loop-rest.bits c.loop-rest-test.true c.loop-rest.invariant

pub returns-clause-same : goal.returns-clause-same
returns-clause-same c = dropped-all c.args.n c.loop-rest.rest c.loop-rest.bits c.loop-rest-test.false c.loop-rest.invariant.1 c.loop-rest.invariant.2

pub returns-clause-limit : goal.returns-clause-limit
returns-clause-limit c = c.loop-rest.invariant.2 64 (omega arith)
