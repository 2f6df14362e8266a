use Rattle.flp_poly.proofs.Products.{value_at-poly_sum, degree-poly_sum}
use Rattle.flp_poly.proofs.laws.sums.Goals as goal

pub returns-clause-value : goal.returns-clause-value
returns-clause-value c = value_at-poly_sum

pub returns-clause-degree : goal.returns-clause-degree
returns-clause-degree c = degree-poly_sum
