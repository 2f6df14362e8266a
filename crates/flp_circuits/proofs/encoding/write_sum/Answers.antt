use Rattle.std.proofs.Common.{arith}
use Rattle.flp_circuits.proofs.BitLemmas.{headroom-below}
use Rattle.flp_circuits.proofs.encoding.write_sum.Goals as goal

pub overflow_add-n : goal.overflow_add-n
overflow_add-n c = omega (arith, headroom-below c.args.max c.requires.limit)
