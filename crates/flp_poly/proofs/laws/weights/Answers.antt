use Rattle.flp_poly.proofs.WeightLemmas.{weights_give_value}
use Rattle.flp_poly.proofs.laws.weights.Goals as goal

pub returns : goal.returns
returns c = weights_give_value
