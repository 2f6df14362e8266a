use Rattle.std.proofs.Common.{arith}
use Rattle.flp_circuits.proofs.BitLemmas.{headroom-below}
use Rattle.flp_circuits.proofs.encoding.write_multihot.Goals as goal

pub overflow_add-total : goal.overflow_add-total
overflow_add-total c = omega (arith, headroom-below c.args.weight c.requires.limit)
