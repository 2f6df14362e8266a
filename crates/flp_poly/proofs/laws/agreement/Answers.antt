use Rattle.flp_poly.proofs.Vanishing.{agreement}
use Rattle.flp_poly.proofs.laws.agreement.Goals as goal

pub returns : goal.returns
returns c = agreement
