use Rattle.flp_field.proofs.Order.{has_inverse, inverse_unique}
use Rattle.flp_field.proofs.laws.inverses.Goals as goal

pub returns-clause-exist : goal.returns-clause-exist
returns-clause-exist c = has_inverse

pub returns-clause-unique : goal.returns-clause-unique
returns-clause-unique c = inverse_unique
