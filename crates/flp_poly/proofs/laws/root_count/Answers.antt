use Rattle.flp_poly.proofs.Vanishing.{root_count}
use Rattle.flp_poly.proofs.laws.root_count.Goals as goal

pub returns : goal.returns
returns c = root_count
