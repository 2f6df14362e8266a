use Rattle.flp_field.proofs.RootsOfUnity.{alpha-order}
use Rattle.flp_field.proofs.laws.order_of_roots.Goals as goal

pub returns : goal.returns
returns c = alpha-order
