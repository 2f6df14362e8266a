use Rattle.flp_hide.proofs.SeedLemmas.{seeds_exist, seeds_are_unique}
use Rattle.flp_hide.proofs.laws.seeds.Goals as goal

pub returns-clause-exist : goal.returns-clause-exist
returns-clause-exist c = seeds_exist c.args.plan.now.circuit c.is_bounded.ensures

pub returns-clause-unique : goal.returns-clause-unique
returns-clause-unique c = seeds_are_unique c.args.plan.now.circuit c.is_bounded.ensures
