-- How often a number stands in lists and ranges.
use Rattle.std.proofs.Common.{◌≡◌, ◌≢◌, ℕ, ◌+◌, ◌<◌, ◌≤◌, cond, ◌==◌, List, [], ◌∷◌, ◌++◌, sym, ap, arith, ne_eqb}
use Rattle.std.proofs.lemmas.List.Sums.{sum_by-append}
use Rattle.std.proofs.lemmas.Bool.Decides.{nat_tests}
use Rattle.flp_tally.specs.Views.{times}
use Rattle.flp_pool.specs.Range.{once}

pub times-append : (x : ℕ) (xs ys : List ℕ) → times x (xs ++ ys) ≡ times x xs + times x ys
times-append x xs ys = sum_by-append (λ (y : ℕ). cond (y == x) 1 0) xs ys

pub times_none : (x y : ℕ) → y ≢ x → times y (x ∷ []) ≡ 0
times_none x y ne = ap (λ b. 0 + cond b 1 0) (ne_eqb x y (λ e. ne (sym e)))

pub once_in : (lo hi x : ℕ) → lo ≤ x → x < hi → once lo hi x ≡ 1
once_in lo hi x a b = grind (arith, nat_tests)
