use Rattle.flp_poly.proofs.Quotients.{remainder_of_divided, quotient_exists, quotient_unique}
use Rattle.flp_poly.proofs.laws.divisions.Goals as goal

pub returns-clause-value : goal.returns-clause-value
returns-clause-value c = remainder_of_divided

pub returns-clause-exists : goal.returns-clause-exists
returns-clause-exists c = quotient_exists

pub returns-clause-unique : goal.returns-clause-unique
returns-clause-unique c = quotient_unique
