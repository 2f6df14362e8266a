use Rattle.flp_poly.proofs.Products.{value_at-poly_product, degree-poly_product}
use Rattle.flp_poly.proofs.laws.products.Goals as goal

pub returns-clause-value : goal.returns-clause-value
returns-clause-value c = value_at-poly_product

pub returns-clause-degree : goal.returns-clause-degree
returns-clause-degree c = degree-poly_product
