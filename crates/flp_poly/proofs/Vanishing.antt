-- A polynomial with as many different roots as coefficients is 0. From the quotient by a root up to the count of roots,
-- and to two polynomials that agree.
use Rattle.std.proofs.Common.{ℕ, suc, zero, ◌≡◌, ◌≢◌, ◌+◌, ◌-◌, ◌*◌, ◌%◌, ◌^◌, ◌<◌, ◌≤◌, min, List, [], ◌∷◌, length, get_or, take, arith, ap, ap₂, sym, subst, ◌∙◌, refl, ⊎_elim, length-take, get_or-take}
use Rattle.std.specs.List.{All, AllPairs, SomeIndex, slice_index}
use Rattle.std.proofs.lemmas.Nat.{pow_pos}
use Rattle.std.proofs.lemmas.Bool.{cases_lt}
use Rattle.std.proofs.lemmas.List.{ext_get_or, get_or_past, get_or-map, length-map}
use Rattle.flp_field.specs.Word.{modulus, AreWords}
use Rattle.flp_field.specs.Domain.{alpha, domain}
use Rattle.flp_field.proofs.Congruence.{Same, same_add, same_mul, same_cancel, word_mod, mod_word, eq_from_same}
use Rattle.flp_field.proofs.ProductLemmas.{cancelled}
use Rattle.flp_field.proofs.RootsOfUnity.{alpha-order, powers_differ, length-powers_of, get_or-powers_of}
use Rattle.flp_poly.specs.Polynomial.{value_at, HasDegreeAtMost, values_on}
use Rattle.flp_poly.specs.PolynomialLaws.{IsRoot, Agree}
use Rattle.flp_poly.proofs.Horner.{horner, value_at-horner, horner_same}
use Rattle.flp_poly.proofs.Products.{sum_of, scaled, horner-sum_of, horner-scaled, get_or-sum_of, get_or-scaled}
use Rattle.flp_poly.proofs.Quotients.{deflate, length-deflate, deflate-first}

-- the value at t is 0 modulo p
abbrev pub Vanishes : List ℕ → ℕ → Type 0
Vanishes cs t = horner cs t % modulus ≡ 0

-- each coefficient is 0 modulo p
abbrev pub IsZero : List ℕ → Type 0
IsZero cs = (k : ℕ) → get_or cs k 0 % modulus ≡ 0

-- the quotient times x - r, with no difference
pub deflate-product : (cs : List ℕ) (r t : ℕ)
    → t * horner cs t + r * horner (deflate cs r) t ≡ t * horner (deflate cs r) t + r * horner cs r
deflate-product [] r t = omega arith
deflate-product (c ∷ cs) r t =
    let rest : t * (t * horner cs t + r * horner (deflate cs r) t) ≡ t * (t * horner (deflate cs r) t + r * horner cs r) =
    ap (λ (x : ℕ). t * x) (deflate-product cs r t) in
    omega arith

swapped : (a b : ℕ) → a + b ≡ b + a
swapped a b = omega arith

-- a summand beside a multiple of 0 is 0
lowest_zero : (c h r : ℕ) → h % modulus ≡ 0 → (c + r * h) % modulus ≡ 0 → c % modulus ≡ 0
lowest_zero c h r none whole =
    let nothing : c + r * 0 ≡ c = omega arith in
    sym
    (same_add c c (r * h) (r * 0) refl (same_mul r r h 0 refl none)
    ∙ ap (λ (x : ℕ). x % modulus) nothing) ∙ whole

cases_of : (c : ℕ) (cs : List ℕ) → c % modulus ≡ 0 → IsZero cs → IsZero (c ∷ cs)
cases_of c cs first rest zero = first
cases_of c cs first rest (suc k) = rest k

-- a word plus the negation of another is 0 only where they are the same
no_difference : (a b : ℕ) → (a + (modulus - 1) * b) % modulus ≡ 0 → Same a b
no_difference a b none = omega arith

-- another root of the polynomial is a root of the quotient
deflate-root : (c : ℕ) (cs : List ℕ) (r s : ℕ) → r < modulus → s < modulus → (r ≡ s → ⊥) → Vanishes (c ∷ cs) r
    → Vanishes (c ∷ cs) s → Vanishes (deflate cs r) s
deflate-root c cs r s r_below s_below differ at_r at_s =
    let both : Same (s * horner cs s + c) (r * horner cs r + c) =
    ap (λ (x : ℕ). x % modulus) (swapped (s * horner cs s) c) ∙ at_s ∙ sym at_r
    ∙ ap (λ (x : ℕ). x % modulus) (swapped c (r * horner cs r)) in
    let same : Same (s * horner cs s) (r * horner cs r) =
    same_cancel (s * horner cs s) (r * horner cs r) c both in
    let product : s * horner cs s + r * horner (deflate cs r) s ≡ s * horner (deflate cs r) s + r * horner cs r =
    deflate-product cs r s in
    let joined : Same (r * horner (deflate cs r) s + r * horner cs r) (s * horner (deflate cs r) s + r * horner cs r) =
    same_add (r * horner (deflate cs r) s) (r * horner (deflate cs r) s) (r * horner cs r) (s * horner cs s) refl
    (sym same)
    ∙ ap (λ (x : ℕ). x % modulus) (swapped (r * horner (deflate cs r) s) (s * horner cs s) ∙ product) in
    cancelled r s (horner (deflate cs r) s) r_below s_below differ
    (same_cancel (r * horner (deflate cs r) s) (s * horner (deflate cs r) s) (r * horner cs r) joined)

-- where the quotient is 0, the coefficients above the lowest are
deflate-zero : (cs : List ℕ) (r : ℕ) → IsZero (deflate cs r) → IsZero cs
deflate-zero [] r none k = refl
deflate-zero (c ∷ cs) r none zero =
    let rest : horner cs r % modulus ≡ 0 =
    ap (λ (x : ℕ). x % modulus) (sym (deflate-first cs r)) ∙ none 1 in
    lowest_zero c (horner cs r) r rest (none 0)
deflate-zero (c ∷ cs) r none (suc k) = deflate-zero cs r (λ (j : ℕ). none (suc j)) k

-- as many different roots as coefficients leave no coefficient but 0
pub vanish : (roots cs : List ℕ) → length cs ≤ length roots → AllPairs (λ (s t : ℕ). s ≢ t) roots → AreWords roots
    → All (λ (t : ℕ). Vanishes cs t) roots → IsZero cs
vanish [] [] few differ words at k = refl
vanish [] (c ∷ cs) few differ words at k = absurd (omega arith)
vanish (r ∷ roots) [] few differ words at k = refl
vanish (r ∷ roots) (c ∷ cs) few differ words at k =
    let size : length (deflate cs r) ≡ length cs = length-deflate cs r in
    let at_r : Vanishes (c ∷ cs) r = at 0 0 (omega arith) in
    let none : IsZero (deflate cs r) =
    vanish roots (deflate cs r) (omega arith)
    (λ (i j d : ℕ) (before : i < j) (h : j < length roots). differ (suc i) (suc j) d (omega arith) (omega arith))
    (λ (k d : ℕ) (h : k < length roots). words (suc k) d (omega arith))
    (λ (k d : ℕ) (h : k < length roots).
    deflate-root c cs r (get_or roots k d) (words 0 0 (omega arith)) (words (suc k) d (omega arith))
    (differ 0 (suc k) d (omega arith) (omega arith)) at_r (at (suc k) d (omega arith))) in
    let rest : IsZero cs = deflate-zero cs r none in
    let first : horner cs r % modulus ≡ 0 = ap (λ (x : ℕ). x % modulus) (sym (deflate-first cs r)) ∙ none 0 in
    cases_of c cs (lowest_zero c (horner cs r) r first at_r) rest k

-- ---- the count of roots

-- a polynomial of degree at most d is its first d + 1 coefficients
pub get_or-cut : (cs : List ℕ) (d : ℕ) → ((i : ℕ) → d < i → get_or cs i 0 % modulus ≡ 0) → (k : ℕ)
    → Same (get_or (take (suc d) cs) k 0) (get_or cs k 0)
get_or-cut cs d degree k =
    ⊎_elim (λ (l : k < suc d). ap (λ (x : ℕ). x % modulus) (get_or-take (suc d) cs k 0 l))
    (λ (l : suc d ≤ k).
    let size : length (take (suc d) cs) ≡ min (suc d) (length cs) = length-take (suc d) cs in
    ap (λ (x : ℕ). x % modulus) (get_or_past (take (suc d) cs) k 0 (omega arith)) ∙ sym (degree k (omega arith)))
    (cases_lt k (suc d))

-- more different roots than the degree leave no coefficient but 0
pub vanish_above : (cs roots : List ℕ) (d : ℕ) → ((i : ℕ) → d < i → get_or cs i 0 % modulus ≡ 0) → d < length roots
    → AllPairs (λ (s t : ℕ). s ≢ t) roots → AreWords roots → All (λ (t : ℕ). Vanishes cs t) roots → IsZero cs
vanish_above cs roots d degree many differ words at k =
    let size : length (take (suc d) cs) ≡ min (suc d) (length cs) = length-take (suc d) cs in
    let cut : IsZero (take (suc d) cs) =
    vanish roots (take (suc d) cs) (omega arith) differ words
    (λ (i e : ℕ) (h : i < length roots).
    horner_same (take (suc d) cs) cs (get_or roots i e) (get_or-cut cs d degree) ∙ at i e h) in
    sym (get_or-cut cs d degree k) ∙ cut k

pub root_count : (cs : List ℕ) (d : ℕ) (roots : List ℕ) → AreWords cs → SomeIndex cs (λ (i : ℕ). slice_index cs i ≢ 0)
    → HasDegreeAtMost cs d → AllPairs (λ (s t : ℕ). s ≢ t) roots → All (λ (t : ℕ). IsRoot cs t) roots → length roots ≤ d
root_count cs d roots words some degree differ at =
    ⊎_elim
    (λ (many : d < length roots).
    let none : IsZero cs =
    vanish_above cs roots d (λ (i : ℕ) (above : d < i). ap (λ (x : ℕ). x % modulus) (degree i above)) many differ
    (λ (k e : ℕ) (h : k < length roots). (at k e h).0)
    (λ (k e : ℕ) (h : k < length roots). sym (value_at-horner cs (get_or roots k e)) ∙ (at k e h).1) in
    let here : get_or cs some.0 0 ≡ 0 =
    sym (word_mod (get_or cs some.0 0) (words some.0 0 some.1)) ∙ none some.0 in
    absurd (some.2 here))
    (λ (few : length roots ≤ d). few) (cases_lt d (length roots))

-- ---- two polynomials that agree

-- the difference of two polynomials, before the remainder is taken
abbrev pub difference_of : List ℕ → List ℕ → List ℕ
difference_of p q = sum_of p (scaled (modulus - 1) q)

difference-zero : (p q : List ℕ) (k : ℕ) → get_or (difference_of p q) k 0 % modulus ≡ 0 → Same (get_or p k 0) (get_or q k 0)
difference-zero p q k none =
    let parts : get_or (difference_of p q) k 0 ≡ get_or p k 0 + (modulus - 1) * get_or q k 0 =
    get_or-sum_of p (scaled (modulus - 1) q) k ∙ ap (λ (x : ℕ). get_or p k 0 + x) (get_or-scaled (modulus - 1) q k) in
    no_difference (get_or p k 0) (get_or q k 0) (ap (λ (x : ℕ). x % modulus) (sym parts) ∙ none)

difference-vanishes : (p q : List ℕ) (t : ℕ) → value_at p t ≡ value_at q t → Vanishes (difference_of p q) t
difference-vanishes p q t e =
    let parts : horner (difference_of p q) t ≡ horner p t + (modulus - 1) * horner q t =
    horner-sum_of p (scaled (modulus - 1) q) t ∙ ap (λ (x : ℕ). horner p t + x) (horner-scaled (modulus - 1) q t) in
    let same : Same (horner p t) (horner q t) = sym (value_at-horner p t) ∙ e ∙ value_at-horner q t in
    let gone : Same (horner p t + (modulus - 1) * horner q t) (horner q t + (modulus - 1) * horner q t) =
    same_add (horner p t) (horner q t) _ _ same refl in
    let nothing : Same (horner q t + (modulus - 1) * horner q t) 0 = omega arith in
    ap (λ (x : ℕ). x % modulus) parts ∙ gone ∙ nothing

-- where all points of a list agree, the coefficients do
pub same_coefficients : (p q : List ℕ) (d : ℕ) (points : List ℕ) → Agree p q d points → (k : ℕ) → Same (get_or p k 0) (get_or q k 0)
same_coefficients p q d points h k =
    difference-zero p q k
    (vanish_above (difference_of p q) points d
    (λ (i : ℕ) (above : d < i).
    let left : get_or p i 0 ≡ 0 = h.left_degree i above in
    let right : get_or q i 0 ≡ 0 = h.right_degree i above in
    ap (λ (x : ℕ). x % modulus)
    (get_or-sum_of p (scaled (modulus - 1) q) i
    ∙ ap₂ (λ (x y : ℕ). x + y) left
    (get_or-scaled (modulus - 1) q i ∙ ap (λ (x : ℕ). (modulus - 1) * x) right)))
    h.many h.differ h.words
    (λ (j e : ℕ) (inside : j < length points).
    difference-vanishes p q (get_or points j e) (h.values j e inside)) k)

coefficient_of_words : (p : List ℕ) (k : ℕ) → AreWords p → get_or p k 0 < modulus
coefficient_of_words p k words =
    ⊎_elim (λ (l : k < length p). words k 0 l)
    (λ (l : length p ≤ k). let past : get_or p k 0 ≡ 0 = get_or_past p k 0 l in omega arith) (cases_lt k (length p))

pub agreement : (p q : List ℕ) (d : ℕ) (points : List ℕ) → Agree p q d points
    → ((i : ℕ) → slice_index p i ≡ slice_index q i) × ((t : ℕ) → value_at p t ≡ value_at q t)
agreement p q d points h = (
  λ (i : ℕ).
      eq_from_same (get_or p i 0) (get_or q i 0) (coefficient_of_words p i h.left_words)
      (coefficient_of_words q i h.right_words) (same_coefficients p q d points h i),
  λ (t : ℕ).
      value_at-horner p t ∙ horner_same p q t (same_coefficients p q d points h) ∙ sym (value_at-horner q t),
)

-- ---- values on a domain

pub length-values_on : (size : ℕ) (cs : List ℕ) → length (values_on size cs) ≡ size
length-values_on size cs =
    length-map (domain size) (λ (t : ℕ). value_at cs t) ∙ length-powers_of (alpha size) size

pub get_or-values_on : (size : ℕ) (cs : List ℕ) (k : ℕ) → k < size
    → get_or (values_on size cs) k 0 ≡ value_at cs (alpha size ^ k % modulus)
get_or-values_on size cs k inside =
    let count : length (domain size) ≡ size = length-powers_of (alpha size) size in
    get_or-map (λ (t : ℕ). value_at cs t) (domain size) k 0 0 (omega arith)
    ∙ ap (λ (t : ℕ). value_at cs t) (get_or-powers_of (alpha size) size k 0 inside)

pub domain-words : (size : ℕ) → AreWords (domain size)
domain-words size k d inside =
    let count : length (domain size) ≡ size = length-powers_of (alpha size) size in
    let P : ℕ → Type 0 = λ (x : ℕ). x < modulus in
    subst P (sym (get_or-powers_of (alpha size) size k d (omega arith))) (mod_word (alpha size ^ k))

pub values_determine : (log : ℕ) (p q : List ℕ) → log ≤ 32 → AreWords p → AreWords q → length p ≡ 2 ^ log → length q ≡ 2 ^ log
    → values_on (2 ^ log) p ≡ values_on (2 ^ log) q → p ≡ q
values_determine log p q small p_words q_words p_size q_size e =
    let count : length (domain (2 ^ log)) ≡ 2 ^ log = length-powers_of (alpha (2 ^ log)) (2 ^ log) in
    let positive : 0 < 2 ^ log = pow_pos log in
    let agree : Agree p q (2 ^ log - 1) (domain (2 ^ log)) =
    record {
      left_words = p_words;
      right_words = q_words;
      left_degree = λ (i : ℕ) (above : 2 ^ log - 1 < i). get_or_past p i 0 (omega arith);
      right_degree = λ (i : ℕ) (above : 2 ^ log - 1 < i). get_or_past q i 0 (omega arith);
      many = omega arith;
      words = domain-words (2 ^ log);
      differ = powers_differ (alpha (2 ^ log)) (2 ^ log) (alpha-order log small);
      values = λ (k d : ℕ) (inside : k < length (domain (2 ^ log))).
          let left : get_or (values_on (2 ^ log) p) k 0 ≡ value_at p (get_or (domain (2 ^ log)) k d) =
          get_or-map (λ (t : ℕ). value_at p t) (domain (2 ^ log)) k d 0 inside in
          let right : get_or (values_on (2 ^ log) q) k 0 ≡ value_at q (get_or (domain (2 ^ log)) k d) =
          get_or-map (λ (t : ℕ). value_at q t) (domain (2 ^ log)) k d 0 inside in
          sym left ∙ ap (λ (l : List ℕ). get_or l k 0) e ∙ right;
    } in
    ext_get_or 0 p q (p_size ∙ sym q_size)
    (λ (i : ℕ) (inside : i < length p). (agreement p q (2 ^ log - 1) (domain (2 ^ log)) agree).0 i)
