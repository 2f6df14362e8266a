use Rattle.flp_circuits.proofs.Plans.{plans_are_small}
use Rattle.flp_circuits.proofs.laws.plans_are_small.Goals as goal

pub returns : goal.returns
returns c = plans_are_small
