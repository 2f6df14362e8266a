-- Where the parts of gadgets begin, one after another.
use Rattle.std.proofs.Common.{ℕ, zero, suc, ◌≡◌, ◌+◌, ◌<◌, ◌≤◌, List, [], ◌∷◌, ◌++◌, map, refl, ap, sym, ◌∙◌, arith}
use Rattle.std.specs.List.{range_with_len, sum_by, flat_map}
use Rattle.std.proofs.lemmas.List.{append-nil, append_assoc}
use Rattle.std.proofs.lemmas.List.FromFn.{sum_by-map-range_with_len_more}
use Rattle.flp_meaning.specs.Lengths.{start_of}
use Rattle.flp_meaning.proofs.PartLemmas.{part_inside}

map-own : {X : Type 0} (xs : List X) → map (λ x. x) xs ≡ xs
map-own [] = refl
map-own (x ∷ xs) = ap (λ l. x ∷ l) (map-own xs)

-- the next part begins behind this one
pub start-more : (size : ℕ → ℕ) (g : ℕ) → start_of size (g + 1) ≡ start_of size g + size g
start-more size g =
    ap (λ l. sum_by size l) (sym (map-own (range_with_len 0 (g + 1))))
    ∙ sum_by-map-range_with_len_more size (λ k. k) 0 g g (omega arith)
    ∙ ap (λ l. sum_by size l + size g) (map-own (range_with_len 0 g))

-- a part ends before all parts do
pub start-inside : (size : ℕ → ℕ) (g n : ℕ) → g < n → start_of size g + size g ≤ sum_by size (range_with_len 0 n)
start-inside size g n low =
    let own : size (0 + g) ≡ size g = let e : 0 + g ≡ g = omega arith in ap size e in
    let h : start_of size g + size (0 + g) ≤ sum_by size (range_with_len 0 n) = part_inside size 0 g n low in
    omega arith

-- one more part
pub flat-more : (f : ℕ → List ℕ) (a n : ℕ) → flat_map f (range_with_len a (n + 1)) ≡ flat_map f (range_with_len a n) ++ f (a + n)
flat-more f a zero = append-nil (f a) ∙ (let e : a ≡ a + 0 = omega arith in ap f e)
flat-more f a (suc n) =
    let next : suc n + 1 ≡ suc (n + 1) = omega arith in
    let place : a + 1 + n ≡ a + suc n = omega arith in
    ap (λ (k : ℕ). flat_map f (range_with_len a k)) next
    ∙ ap (λ (l : List ℕ). f a ++ l) (flat-more f (a + 1) n)
    ∙ ap (λ (k : ℕ). f a ++ (flat_map f (range_with_len (a + 1) n) ++ f k)) place
    ∙ sym (append_assoc (f a) (flat_map f (range_with_len (a + 1) n)) (f (a + suc n)))
