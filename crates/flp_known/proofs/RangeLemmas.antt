-- The elements of a list from one place up to another.
use Rattle.std.proofs.Common.{◌≡◌, ℕ, suc, ◌+◌, ◌-◌, ◌<◌, ◌≤◌, List, ◌∷◌, length, take, drop, Some, ap, ap₂, ◌∙◌, arith}
use Rattle.std.specs.Prelude.{slice_get, slice_range}
use Rattle.std.proofs.Math.Seq.{drop-cons}
use Rattle.std.proofs.lemmas.List.{take_all, length-drop}
use Rattle.std.proofs.lemmas.Option.{get_or_from_slice_get, slice_get_within}

module _ {X : Type 0} (xs : List X) where
  -- the first of them
  pub slice_range-first : (x : X) (a b : ℕ) → a < b → slice_get xs a ≡ Some x → slice_range xs a b ≡ x ∷ slice_range xs (a + 1) b
  slice_range-first x a b less at =
      let one : b - a ≡ suc (b - (a + 1)) = omega (arith, less) in
      let next : suc a ≡ a + 1 = omega arith in
      ap (λ (k : ℕ). take k (drop a xs)) one
      ∙ (ap (take (suc (b - (a + 1)))) (drop-cons xs a x (slice_get_within xs a x at))
      ∙ ap₂ (λ (y : X) (k : ℕ). y ∷ take (b - (a + 1)) (drop k xs)) (get_or_from_slice_get xs a x x at) next)

  -- up to the end
  pub slice_range-all : (a b : ℕ) → length xs ≤ b → slice_range xs a b ≡ drop a xs
  slice_range-all a b all =
      let enough : length (drop a xs) ≤ b - a = omega (arith, all, length-drop a xs) in
      take_all (b - a) (drop a xs) enough
