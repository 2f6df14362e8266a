-- Digits that are the same proof after proof.
use Rattle.std.proofs.Common.{◌≡◌, ℕ, zero, suc, ◌+◌, ◌<◌, List, ◌++◌, refl, sym, ap, ap₂, ◌∙◌, arith}
use Rattle.std.specs.List.{flat_map, range_with_len}

-- lists that are the same at each number
flat_map-same_from : (f g : ℕ → List ℕ) (a n : ℕ) → ((k : ℕ) → k < n → f (a + k) ≡ g (a + k)) → flat_map f (range_with_len a n) ≡ flat_map g (range_with_len a n)
flat_map-same_from f g a zero same = refl
flat_map-same_from f g a (suc n) same =
    let start : a + 0 ≡ a = omega arith in
    let first : f a ≡ g a = ap f (sym start) ∙ (same 0 (omega arith) ∙ ap g start) in
    ap₂ (λ (x : List ℕ) (y : List ℕ). x ++ y) first
    (flat_map-same_from f g (a + 1) n (λ (k : ℕ) (below : k < n).
    let moved : a + 1 + k ≡ a + (k + 1) = omega arith in
    ap f moved ∙ (same (k + 1) (omega arith) ∙ ap g (sym moved))))

pub flat_map-same : (f g : ℕ → List ℕ) (n : ℕ) → ((k : ℕ) → k < n → f k ≡ g k) → flat_map f (range_with_len 0 n) ≡ flat_map g (range_with_len 0 n)
flat_map-same f g n same =
    flat_map-same_from f g 0 n (λ (k : ℕ) (below : k < n).
    let here : 0 + k ≡ k = omega arith in
    ap f here ∙ (same k below ∙ ap g (sym here)))
