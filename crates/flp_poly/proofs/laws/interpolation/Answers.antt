use Rattle.flp_poly.proofs.Interpolation.{interpolation_exists, interpolation_unique, domain_has_inverses}
use Rattle.flp_poly.proofs.laws.interpolation.Goals as goal

pub returns-clause-exists : goal.returns-clause-exists
returns-clause-exists c = interpolation_exists

pub returns-clause-unique : goal.returns-clause-unique
returns-clause-unique c = interpolation_unique

pub returns-clause-inverses : goal.returns-clause-inverses
returns-clause-inverses c = domain_has_inverses
