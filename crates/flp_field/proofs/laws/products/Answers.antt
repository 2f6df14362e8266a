use Rattle.flp_field.proofs.ProductLemmas.{product_associates, product_distributes}
use Rattle.flp_field.proofs.laws.products.Goals as goal

pub returns-clause-associate : goal.returns-clause-associate
returns-clause-associate c = product_associates

pub returns-clause-distribute : goal.returns-clause-distribute
returns-clause-distribute c = product_distributes
