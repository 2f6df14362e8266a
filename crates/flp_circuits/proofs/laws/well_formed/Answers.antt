use Rattle.flp_circuits.proofs.WellLemmas.{standard-well}
use Rattle.flp_circuits.proofs.laws.well_formed.Goals as goal

pub returns : goal.returns
returns c = standard-well
