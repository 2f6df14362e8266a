-- Why each type of gadget obeys the laws of a gadget.
use Rattle.std.proofs.Common.{ℕ, zero, suc, min, ◌≡◌, ◌+◌, ◌-◌, ◌*◌, ◌%◌, ◌<◌, ◌≤◌, List, [], ◌∷◌, map, length, get_or, take, drop, arith, ap, ap₂, sym, subst, ◌∙◌, refl, length-take, length-drop, mul-le-mul}
use Rattle.std.specs.List.{All, sum}
use Rattle.std.proofs.lemmas.List.{get_or_past, take-map, drop-map}
use Rattle.std.proofs.lemmas.List.Elements.{All-take, All-drop}
use Rattle.std.proofs.lemmas.List.Sums.{sum_by-cons}
use Rattle.flp_field.specs.Word.{modulus}
use Rattle.flp_field.specs.Sums.{parts_of}
use Rattle.flp_field.proofs.Congruence.{Same, same_add, same_mul, same_mod}
use Rattle.flp_poly.specs.Polynomial.{value_at, HasDegreeAtMost, poly_product}
use Rattle.flp_poly.proofs.Horner.{horner, value_at-horner}
use Rattle.flp_poly.proofs.Products.{value_at-poly_sum, value_at-poly_product, degree-poly_sum, degree-poly_product}
use Rattle.flp_gadget.specs.Formulas.{product_value, product_formula, poly_value, poly_formula, nested, composed, sum_over_groups, total_over_groups}
use Rattle.flp_gadget.specs.GadgetLaws.{FormulaHasValue, FormulaHasDegree, GadgetLaw, IsWithinLimits}

-- ---- inputs

-- the value of one of the polynomials
pub get_or-values : (ps : List (List ℕ)) (k t : ℕ) → get_or (map (λ p. value_at p t) ps) k 0 ≡ value_at (get_or ps k []) t
get_or-values [] k t = refl
get_or-values (p ∷ ps) zero t = refl
get_or-values (p ∷ ps) (suc k) t = get_or-values ps k t

-- a polynomial that is not there has every degree
pub get_or-degree : (ps : List (List ℕ)) (k d : ℕ) → All (λ p. HasDegreeAtMost p d) ps → HasDegreeAtMost (get_or ps k []) d
get_or-degree [] k d all = λ i above. refl
get_or-degree (p ∷ ps) zero d all = all 0 [] (omega arith)
get_or-degree (p ∷ ps) (suc k) d all =
    get_or-degree ps k d (λ (j : ℕ) (e : List ℕ) (h : j < length ps). all (suc j) e (omega arith))

-- ---- products

pub law_of_product : GadgetLaw 2 2 product_value product_formula
law_of_product = record {
  values = λ ps t size.
      value_at-poly_product (get_or ps 0 []) (get_or ps 1 []) t
      ∙ ap₂ (λ (a b : ℕ). (a * b) % modulus) (sym (get_or-values ps 0 t)) (sym (get_or-values ps 1 t));
  degrees = λ ps d size all.
      let twice : d + d ≡ 2 * d = omega arith in
      let P : ℕ → Type 0 = λ n. HasDegreeAtMost (product_formula ps) n in
      subst P twice
      (degree-poly_product (get_or ps 0 []) (get_or ps 1 []) d d (get_or-degree ps 0 d all) (get_or-degree ps 1 d all));
}

pub limits_of_product : IsWithinLimits 2 2
limits_of_product = record {
  some_input = omega arith;
  few_inputs = omega arith;
  some_degree = omega arith;
  low_degree = omega arith;
}

-- ---- polynomials of one input

constant_at : (c s t : ℕ) → value_at (c ∷ []) s ≡ value_at (c ∷ []) t
constant_at c s t =
    let left : c + s * 0 ≡ c + t * 0 = omega arith in
    value_at-horner (c ∷ []) s ∙ ap (λ (x : ℕ). x % modulus) left ∙ sym (value_at-horner (c ∷ []) t)

one_more : (c d : ℕ) (cs : List ℕ) (v : ℕ)
    → (value_at (c ∷ []) v + (v * value_at (d ∷ cs) v) % modulus) % modulus ≡ value_at (c ∷ d ∷ cs) v
one_more c d cs v =
    let single : c + v * 0 ≡ c = omega arith in
    let first : Same (value_at (c ∷ []) v) c =
    ap (λ (x : ℕ). x % modulus) (value_at-horner (c ∷ []) v) ∙ same_mod (c + v * 0) ∙ ap (λ (x : ℕ). x % modulus) single in
    let inner : Same (value_at (d ∷ cs) v) (horner (d ∷ cs) v) =
    ap (λ (x : ℕ). x % modulus) (value_at-horner (d ∷ cs) v) ∙ same_mod (horner (d ∷ cs) v) in
    let second : Same ((v * value_at (d ∷ cs) v) % modulus) (v * horner (d ∷ cs) v) =
    same_mod (v * value_at (d ∷ cs) v) ∙ same_mul v v (value_at (d ∷ cs) v) (horner (d ∷ cs) v) refl inner in
    same_add (value_at (c ∷ []) v) c ((v * value_at (d ∷ cs) v) % modulus) (v * horner (d ∷ cs) v) first second
    ∙ sym (value_at-horner (c ∷ d ∷ cs) v)

pub value_at-nested : (c : ℕ) (cs p : List ℕ) (t : ℕ) → value_at (nested c cs p) t ≡ value_at (c ∷ cs) (value_at p t)
value_at-nested c [] p t = constant_at c t (value_at p t)
value_at-nested c (d ∷ cs) p t =
    value_at-poly_sum (c ∷ []) (poly_product p (nested d cs p)) t
    ∙ ap₂ (λ (a b : ℕ). (a + b) % modulus) (constant_at c t (value_at p t))
    (value_at-poly_product p (nested d cs p) t ∙ ap (λ (x : ℕ). (value_at p t * x) % modulus) (value_at-nested d cs p t))
    ∙ one_more c d cs (value_at p t)

pub value_at-composed : (cs p : List ℕ) (t : ℕ) → value_at (composed cs p) t ≡ value_at cs (value_at p t)
value_at-composed [] p t = refl
value_at-composed (c ∷ cs) p t = value_at-nested c cs p t

degree-constant : (c d : ℕ) → HasDegreeAtMost (c ∷ []) d
degree-constant c d i above = get_or_past (c ∷ []) i 0 (omega arith)

pub degree-nested : (c : ℕ) (cs p : List ℕ) (d : ℕ) → HasDegreeAtMost p d → HasDegreeAtMost (nested c cs p) (length cs * d)
degree-nested c [] p d low = degree-constant c (0 * d)
degree-nested c (e ∷ cs) p d low =
    let more : d + length cs * d ≡ length (e ∷ cs) * d = omega arith in
    let P : ℕ → Type 0 = λ n. HasDegreeAtMost (nested c (e ∷ cs) p) n in
    subst P more
    (degree-poly_sum (c ∷ []) (poly_product p (nested e cs p)) (d + length cs * d) (degree-constant c (d + length cs * d))
    (degree-poly_product p (nested e cs p) d (length cs * d) low (degree-nested e cs p d low)))

pub degree-composed : (cs p : List ℕ) (d : ℕ) → HasDegreeAtMost p d → HasDegreeAtMost (composed cs p) ((length cs - 1) * d)
degree-composed [] p d low = λ i above. refl
degree-composed (c ∷ cs) p d low =
    let less : length cs ≡ length (c ∷ cs) - 1 = omega arith in
    let P : ℕ → Type 0 = λ n. HasDegreeAtMost (nested c cs p) (n * d) in
    subst P less (degree-nested c cs p d low)

pub law_of_poly : (cs : List ℕ) → GadgetLaw 1 (length cs - 1) (poly_value cs) (poly_formula cs)
law_of_poly cs = record {
  values = λ ps t size.
      value_at-composed cs (get_or ps 0 []) t ∙ ap (λ (x : ℕ). value_at cs x) (sym (get_or-values ps 0 t));
  degrees = λ ps d size all. degree-composed cs (get_or ps 0 []) d (get_or-degree ps 0 d all);
}

pub limits_of_poly : (cs : List ℕ) → 2 ≤ length cs → length cs ≤ 9 → IsWithinLimits 1 (length cs - 1)
limits_of_poly cs some few = record {
  some_input = omega arith;
  few_inputs = omega arith;
  some_degree = omega arith;
  low_degree = omega arith;
}

-- ---- sums over groups

pub group_fits : (a count : ℕ) (ps : List (List ℕ)) → length ps ≡ suc count * a → length (take a ps) ≡ a
group_fits a count ps size =
    let front : length (take a ps) ≡ min a (length ps) = length-take a ps in
    let whole : length ps ≡ a + count * a = size ∙ (omega arith) in
    omega arith

pub rest_fits : (a count : ℕ) (ps : List (List ℕ)) → length ps ≡ suc count * a → length (drop a ps) ≡ count * a
rest_fits a count ps size =
    let back : length (drop a ps) ≡ length ps - a = length-drop a ps in
    let whole : length ps ≡ a + count * a = size ∙ (omega arith) in
    omega arith

pub sum-more : (x : ℕ) (xs : List ℕ) → (x + sum xs % modulus) % modulus ≡ sum (x ∷ xs) % modulus
sum-more x xs =
    same_add x x (sum xs % modulus) (sum xs) refl (same_mod (sum xs))
    ∙ ap (λ (n : ℕ). n % modulus) (sym (sum_by-cons (λ (n : ℕ). n) x xs))

module _ (arity : ℕ) (value : List ℕ → ℕ) (formula : List (List ℕ) → List ℕ) where
  pub values_over_groups : FormulaHasValue arity value formula → (count : ℕ)
      → FormulaHasValue (count * arity) (sum_over_groups value arity count) (total_over_groups formula arity count)
  values_over_groups law zero ps t size = refl
  values_over_groups law (suc count) ps t size =
      value_at-poly_sum (formula (take arity ps)) (total_over_groups formula arity count (drop arity ps)) t
      ∙ ap₂ (λ (a b : ℕ). (a + b) % modulus)
      (law (take arity ps) t (group_fits arity count ps size)
      ∙ ap value (sym (take-map (λ p. value_at p t) arity ps)))
      (values_over_groups law count (drop arity ps) t (rest_fits arity count ps size)
      ∙ ap (λ (l : List ℕ). sum_over_groups value arity count l) (sym (drop-map (λ p. value_at p t) arity ps)))
      ∙ sum-more (value (take arity (map (λ p. value_at p t) ps)))
      (map value (parts_of count arity (drop arity (map (λ p. value_at p t) ps))))

  pub degrees_over_groups : (degree : ℕ) → FormulaHasDegree arity degree formula → (count : ℕ)
      → FormulaHasDegree (count * arity) degree (total_over_groups formula arity count)
  degrees_over_groups degree law zero ps d size all = λ i above. refl
  degrees_over_groups degree law (suc count) ps d size all =
      degree-poly_sum (formula (take arity ps)) (total_over_groups formula arity count (drop arity ps)) (degree * d)
      (law (take arity ps) d (group_fits arity count ps size) (All-take (λ p. HasDegreeAtMost p d) arity ps all))
      (degrees_over_groups degree law count (drop arity ps) d (rest_fits arity count ps size)
      (All-drop (λ p. HasDegreeAtMost p d) arity ps all))

  pub law_over_groups : (degree : ℕ) → GadgetLaw arity degree value formula → (count : ℕ)
      → GadgetLaw (count * arity) degree (sum_over_groups value arity count) (total_over_groups formula arity count)
  law_over_groups degree law count = record {
    values = values_over_groups law.values count;
    degrees = degrees_over_groups degree law.degrees count;
  }

pub positive_product : (a b : ℕ) → 1 ≤ a → 1 ≤ b → 1 ≤ a * b
positive_product a b some_a some_b =
    let step : 1 * 1 ≤ a * b = mul-le-mul some_a some_b in omega arith

pub limits_over_groups : (arity degree count : ℕ) → IsWithinLimits arity degree → 1 ≤ count → count * arity ≤ 1024
    → IsWithinLimits (count * arity) degree
limits_over_groups arity degree count within some few = record {
  some_input = positive_product count arity some within.some_input;
  few_inputs = few;
  some_degree = within.some_degree;
  low_degree = within.low_degree;
}
