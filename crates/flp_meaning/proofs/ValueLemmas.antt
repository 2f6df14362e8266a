-- The value of a gadget depends on as many inputs as it has, and a missing one counts as 0.
use Rattle.std.proofs.Common.{ℕ, zero, suc, ◌≡◌, ◌+◌, ◌*◌, ◌%◌, ◌<◌, List, ◌∷◌, map, take, drop, refl, ap, ap₂, sym, ◌∙◌, arith}
use Rattle.std.specs.Prelude.{slice_index, sum}
use Rattle.std.proofs.lemmas.List.{get_or-take, get_or-drop}
use Rattle.flp_field.specs.Word.{modulus, word_product}
use Rattle.flp_field.specs.Sums.{parts_of}
use Rattle.flp_poly.specs.Polynomial.{value_at}
use Rattle.flp_gadget.specs.KindTree.{KindTree, Mul, Poly, Psum, kind_arity, value_of}

parts-same : (value : List ℕ → ℕ) (size : ℕ)
    → ((xs ys : List ℕ) → ((k : ℕ) → k < size → slice_index xs k ≡ slice_index ys k) → value xs ≡ value ys)
    → (count : ℕ) (xs ys : List ℕ) → ((k : ℕ) → k < count * size → slice_index xs k ≡ slice_index ys k)
    → map value (parts_of count size xs) ≡ map value (parts_of count size ys)
parts-same value size depends zero xs ys same = refl
parts-same value size depends (suc count) xs ys same =
    ap₂ (λ (v : ℕ) (vs : List ℕ). v ∷ vs)
    (depends (take size xs) (take size ys)
    (λ k low.
    let below : k < suc count * size = omega arith in
    get_or-take size xs k 0 low ∙ same k below ∙ sym (get_or-take size ys k 0 low)))
    (parts-same value size depends count (drop size xs) (drop size ys)
    (λ k low.
    let below : size + k < suc count * size = omega arith in
    get_or-drop size xs k 0 ∙ same (size + k) below ∙ sym (get_or-drop size ys k 0)))

pub value-same : (tree : KindTree) (xs ys : List ℕ) → ((k : ℕ) → k < kind_arity tree → slice_index xs k ≡ slice_index ys k) → value_of tree xs ≡ value_of tree ys
value-same Mul xs ys same = ap₂ word_product (same 0 (omega arith)) (same 1 (omega arith))
value-same (Poly coeffs) xs ys same = ap (λ x. value_at coeffs x) (same 0 (omega arith))
value-same (Psum sub count) xs ys same =
    ap (λ (values : List ℕ). sum values % modulus) (parts-same (value_of sub) (kind_arity sub) (value-same sub) count xs ys same)
