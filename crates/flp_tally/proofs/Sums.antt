-- Sums over all views: after a change of one view, and where one view has all the weight.
use Rattle.std.proofs.Common.{◌≡◌, ℕ, zero, suc, ◌+◌, ◌*◌, ◌≤◌, List, [], ◌∷◌, set, sum_by, sym, refl, ap, ◌∙◌, arith, mul-add}
use Rattle.std.proofs.lemmas.List.Sums.{sum_by-cons}
use mathlib.Core.Option.{some, some-injective, some-ne-none}
use lib.ListN.{get_elem?}

module _ {A : Type 0} where
  pub sum_set : (f : A → ℕ) (vs : List A) (i : ℕ) (v w : A) → get_elem? vs i ≡ some v → sum_by f (set vs i w) + f v ≡ sum_by f vs + f w
  sum_set f [] i v w e = absurd (some-ne-none v (sym e))
  sum_set f (x ∷ xs) zero v w e = let is : f x ≡ f v = ap f (some-injective x v e) in omega (arith, sum_by-cons f w xs, sum_by-cons f x xs)
  sum_set f (x ∷ xs) (suc i) v w e = let r = sum_set f xs i v w e in omega (arith, sum_by-cons f x (set xs i w), sum_by-cons f x xs)

  pub at_le : (f : A → ℕ) (vs : List A) (i : ℕ) (v : A) → get_elem? vs i ≡ some v → f v ≤ sum_by f vs
  at_le f [] i v e = absurd (some-ne-none v (sym e))
  at_le f (x ∷ xs) zero v e = let is : f x ≡ f v = ap f (some-injective x v e) in omega (arith, sum_by-cons f x xs)
  at_le f (x ∷ xs) (suc i) v e = let r = at_le f xs i v e in omega (arith, sum_by-cons f x xs)

  -- a sum of terms that are each at most k times another is at most k times the other sum
  pub sum_le : (f g : A → ℕ) (k : ℕ) (vs : List A) → ((i : ℕ) (v : A) → get_elem? vs i ≡ some v → f v ≤ k * g v) → sum_by f vs ≤ k * sum_by g vs
  sum_le f g k [] h = omega arith
  sum_le f g k (x ∷ xs) h = let here = h 0 x refl in let r = sum_le f g k xs (λ i. h (suc i)) in
      rw (sum_by-cons f x xs, sum_by-cons g x xs, mul-add k (g x) (sum_by g xs)) (omega arith)

  -- where the weights are all 0, so is the sum of whatever views of weight 0 lack
  pub sum_none : (weight f : A → ℕ) (vs : List A) → sum_by weight vs ≡ 0 → ((i : ℕ) (v : A) → get_elem? vs i ≡ some v → weight v ≡ 0 → f v ≡ 0) → sum_by f vs ≡ 0
  sum_none weight f [] e idle = refl
  sum_none weight f (x ∷ xs) e idle = let both : weight x + sum_by weight xs ≡ 0 = sym (sum_by-cons weight x xs) ∙ e in let none : weight x ≡ 0 = omega arith in let here = idle 0 x refl none in
      let r = sum_none weight f xs (omega arith) (λ i. idle (suc i)) in omega (arith, sum_by-cons f x xs)

  -- who has all the weight has all of whatever views of weight 0 lack
  pub sum_only : (weight f : A → ℕ) (vs : List A) (i : ℕ) (v : A) → get_elem? vs i ≡ some v → sum_by weight vs ≡ weight v → ((j : ℕ) (u : A) → get_elem? vs j ≡ some u → weight u ≡ 0 → f u ≡ 0) → sum_by f vs ≡ f v
  sum_only weight f [] i v at e idle = absurd (some-ne-none v (sym at))
  sum_only weight f (x ∷ xs) zero v at e idle = let same : x ≡ v = some-injective x v at in let w : weight x ≡ weight v = ap weight same in let is : f x ≡ f v = ap f same in
      let both : weight x + sum_by weight xs ≡ weight v = sym (sum_by-cons weight x xs) ∙ e in let r = sum_none weight f xs (omega arith) (λ j. idle (suc j)) in omega (arith, sum_by-cons f x xs)
  sum_only weight f (x ∷ xs) (suc i) v at e idle = let both : weight x + sum_by weight xs ≡ weight v = sym (sum_by-cons weight x xs) ∙ e in let le = at_le weight xs i v at in
      let none : weight x ≡ 0 = omega arith in let here = idle 0 x refl none in let r = sum_only weight f xs i v at (omega arith) (λ j. idle (suc j)) in omega (arith, sum_by-cons f x xs)
