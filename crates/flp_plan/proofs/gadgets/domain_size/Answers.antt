use Rattle.std.proofs.Common.{arith}
use Rattle.flp_plan.proofs.UseLemmas.{small_power}
use Rattle.flp_plan.proofs.gadgets.domain_size.Goals as goal

pub returns-clause-small : goal.returns-clause-small
returns-clause-small c = let small = small_power c.args.log c.requires in omega arith
