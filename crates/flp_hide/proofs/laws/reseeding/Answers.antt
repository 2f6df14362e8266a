use Rattle.flp_hide.proofs.SeedLemmas.{reseeded_has_same_wires, reseeding_goes_back}
use Rattle.flp_hide.proofs.laws.reseeding.Goals as goal

pub returns-clause-wires : goal.returns-clause-wires
returns-clause-wires c = reseeded_has_same_wires c.args.plan.now.circuit c.is_bounded.ensures

pub returns-clause-back : goal.returns-clause-back
returns-clause-back c = reseeding_goes_back c.args.plan.now.circuit c.is_bounded.ensures
