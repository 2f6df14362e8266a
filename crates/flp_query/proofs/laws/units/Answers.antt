use Rattle.flp_query.proofs.UnitLemmas.{unit_is_inverse}
use Rattle.flp_query.proofs.laws.units.Goals as goal

pub returns : goal.returns
returns c = unit_is_inverse
