use Rattle.flp_poly.proofs.Vanishing.{values_determine}
use Rattle.flp_poly.proofs.laws.determined_by_values.Goals as goal

pub returns : goal.returns
returns c = values_determine
