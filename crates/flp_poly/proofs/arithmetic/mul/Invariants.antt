use Rattle.std.proofs.Common.{ℕ, ◌≡◌, ◌<◌, get_or}
use Rattle.flp_poly.specs.Polynomial.{product_coefficient}
use Rattle.flp_poly.proofs.arithmetic.mul.Given as goal

abbrev pub invariant-loop-k : goal.invariant-loop-k
invariant-loop-k l = (j : ℕ) → j < l.k → get_or l.out j 0 ≡ product_coefficient l.a l.b j
