use Rattle.std.proofs.Common.{ℕ, ◌≡◌, ◌%◌}
use Rattle.flp_field.specs.Word.{modulus}
use Rattle.flp_field.proofs.SumLemmas.{sum_to}
use Rattle.flp_poly.proofs.Products.{summand}
use Rattle.flp_poly.proofs.arithmetic.coefficient_of_product.Given as goal

abbrev pub invariant-loop-i : goal.invariant-loop-i
invariant-loop-i l = l.sum ≡ sum_to (λ (j : ℕ). summand l.a l.b l.k j) l.i % modulus
