-- Sums and products of polynomials: by recursion on the lists, where values are easy, and by coefficients.
use Rattle.std.proofs.Common.{ℕ, suc, zero, ◌≡◌, ◌+◌, ◌-◌, ◌*◌, ◌%◌, ◌<◌, ◌≤◌, max, min, List, [], ◌∷◌, length, get_or, arith, ap, ap₂, sym, ◌∙◌, refl, ⊎_elim, add-one}
use Rattle.std.proofs.lemmas.Bool.{cases_lt}
use Rattle.std.proofs.lemmas.List.{get_or_past, get_or_read}
use Rattle.std.proofs.lemmas.List.FromFn.{length-map-range_with_len, get_or-map-range_with_len}
use Rattle.flp_field.specs.Word.{modulus, word_sum}
use Rattle.flp_field.proofs.Congruence.{Same, same_add, same_mul, same_mod}
use Rattle.flp_poly.specs.Polynomial.{value_at, HasDegreeAtMost, poly_sum, poly_product, product_coefficient}
use Rattle.flp_field.proofs.SumLemmas.{sum_to, sum_to-suc, sum_to-first, sum_to-same, sum_to-flat, sum_to-zero}
use Rattle.flp_poly.proofs.Horner.{horner, value_at-horner, horner_same}

-- ---- by recursion, with no remainder taken

abbrev pub sum_of : List ℕ → List ℕ → List ℕ
sum_of [] q = q
sum_of (x ∷ p) [] = x ∷ p
sum_of (x ∷ p) (y ∷ q) = (x + y) ∷ sum_of p q

abbrev pub scaled : ℕ → List ℕ → List ℕ
scaled x [] = []
scaled x (y ∷ q) = x * y ∷ scaled x q

abbrev pub product_of : List ℕ → List ℕ → List ℕ
product_of [] q = []
product_of (x ∷ p) q = sum_of (scaled x q) (0 ∷ product_of p q)

pub horner-sum_of : (p q : List ℕ) (t : ℕ) → horner (sum_of p q) t ≡ horner p t + horner q t
horner-sum_of [] q t = omega arith
horner-sum_of (x ∷ p) [] t = omega arith
horner-sum_of (x ∷ p) (y ∷ q) t =
    let rest : horner (sum_of p q) t ≡ horner p t + horner q t = horner-sum_of p q t in
    let spread : t * horner (sum_of p q) t ≡ t * (horner p t + horner q t) = ap (λ (k : ℕ). t * k) rest in
    omega arith

pub horner-scaled : (x : ℕ) (q : List ℕ) (t : ℕ) → horner (scaled x q) t ≡ x * horner q t
horner-scaled x [] t = omega arith
horner-scaled x (y ∷ q) t =
    let spread : t * horner (scaled x q) t ≡ t * (x * horner q t) = ap (λ (k : ℕ). t * k) (horner-scaled x q t) in
    omega arith

pub horner-product_of : (p q : List ℕ) (t : ℕ) → horner (product_of p q) t ≡ horner p t * horner q t
horner-product_of [] q t = omega arith
horner-product_of (x ∷ p) q t =
    let both : horner (sum_of (scaled x q) (0 ∷ product_of p q)) t
    ≡ horner (scaled x q) t + (0 + t * horner (product_of p q) t) =
    horner-sum_of (scaled x q) (0 ∷ product_of p q) t in
    let first : horner (scaled x q) t ≡ x * horner q t = horner-scaled x q t in
    let rest : t * horner (product_of p q) t ≡ t * (horner p t * horner q t) =
    ap (λ (k : ℕ). t * k) (horner-product_of p q t) in
    omega arith

-- ---- by coefficients

pub get_or-sum_of : (p q : List ℕ) (k : ℕ) → get_or (sum_of p q) k 0 ≡ get_or p k 0 + get_or q k 0
get_or-sum_of [] q k = omega arith
get_or-sum_of (x ∷ p) [] k = omega arith
get_or-sum_of (x ∷ p) (y ∷ q) zero = refl
get_or-sum_of (x ∷ p) (y ∷ q) (suc k) = get_or-sum_of p q k

pub get_or-scaled : (x : ℕ) (q : List ℕ) (k : ℕ) → get_or (scaled x q) k 0 ≡ x * get_or q k 0
get_or-scaled x [] k = omega arith
get_or-scaled x (y ∷ q) zero = refl
get_or-scaled x (y ∷ q) (suc k) = get_or-scaled x q k

-- one summand of coefficient k of the product
abbrev pub summand : List ℕ → List ℕ → ℕ → ℕ → ℕ
summand p q k i = get_or p i 0 * get_or q (k - i) 0

-- coefficient k of the product, with no remainder taken
abbrev pub convolution : List ℕ → List ℕ → ℕ → ℕ
convolution p q k = sum_to (λ (i : ℕ). summand p q k i) (k + 1)

times_zero : (a b : ℕ) → b ≡ 0 → a * b ≡ 0
times_zero a b e = ap (λ (x : ℕ). a * x) e ∙ (omega arith)

zero_times : (a b : ℕ) → a ≡ 0 → a * b ≡ 0
zero_times a b e = ap (λ (x : ℕ). x * b) e ∙ (omega arith)

convolution-nil : (q : List ℕ) (k : ℕ) → convolution [] q k ≡ 0
convolution-nil q k =
    sum_to-zero (λ (i : ℕ). summand [] q k i) (k + 1)
    (λ (i : ℕ) (h : i < k + 1). zero_times 0 (get_or q (k - i) 0) refl)

convolution-zero : (x : ℕ) (p q : List ℕ) → convolution (x ∷ p) q 0 ≡ x * get_or q 0 0
convolution-zero x p q =
    let whole : sum_to (λ (i : ℕ). summand (x ∷ p) q 0 i) 1 ≡ sum_to (λ (i : ℕ). summand (x ∷ p) q 0 i) 0 + x * get_or q 0 0 =
    sum_to-suc (λ (i : ℕ). summand (x ∷ p) q 0 i) 0 in
    omega arith

suc_minus : (k i : ℕ) → suc k - suc i ≡ k - i
suc_minus k i = omega arith

minus_zero : (k : ℕ) → k - 0 ≡ k
minus_zero k = omega arith

convolution-suc : (x : ℕ) (p q : List ℕ) (k : ℕ) → convolution (x ∷ p) q (suc k) ≡ x * get_or q (suc k) 0 + convolution p q k
convolution-suc x p q k =
    ap (λ (n : ℕ). sum_to (λ (i : ℕ). summand (x ∷ p) q (suc k) i) n) (add-one (suc k))
    ∙ sum_to-first (λ (i : ℕ). summand (x ∷ p) q (suc k) i) (suc k)
    ∙ ap₂ (λ (a b : ℕ). a + b) (ap (λ (n : ℕ). x * get_or q n 0) (minus_zero (suc k)))
    (sum_to-same (λ (i : ℕ). summand (x ∷ p) q (suc k) (suc i)) (λ (i : ℕ). summand p q k i) (suc k)
    (λ (i : ℕ) (h : i < suc k). ap (λ (n : ℕ). get_or p i 0 * get_or q n 0) (suc_minus k i))
    ∙ ap (λ (n : ℕ). sum_to (λ (i : ℕ). summand p q k i) n) (sym (add-one k)))

-- both forms of the product have the same coefficients
pub get_or-product_of : (p q : List ℕ) (k : ℕ) → get_or (product_of p q) k 0 ≡ convolution p q k
get_or-product_of [] q k = sym (convolution-nil q k)
get_or-product_of (x ∷ p) q zero =
    get_or-sum_of (scaled x q) (0 ∷ product_of p q) 0
    ∙ ap (λ (n : ℕ). n + 0) (get_or-scaled x q 0) ∙ (omega arith) ∙ sym (convolution-zero x p q)
get_or-product_of (x ∷ p) q (suc k) =
    get_or-sum_of (scaled x q) (0 ∷ product_of p q) (suc k)
    ∙ ap₂ (λ (a b : ℕ). a + b) (get_or-scaled x q (suc k)) (get_or-product_of p q k) ∙ sym (convolution-suc x p q k)

-- past both ends together every summand is 0
pub convolution-past : (p q : List ℕ) (k : ℕ) → length p + length q ≤ k + 1 → convolution p q k ≡ 0
convolution-past p q k past =
    sum_to-zero (λ (i : ℕ). summand p q k i) (k + 1)
    (λ (i : ℕ) (h : i < k + 1).
    ⊎_elim
    (λ (l : i < length p).
    let over : length q ≤ k - i = omega arith in
    times_zero (get_or p i 0) (get_or q (k - i) 0) (get_or_past q (k - i) 0 over))
    (λ (l : length p ≤ i). zero_times (get_or p i 0) (get_or q (k - i) 0) (get_or_past p i 0 l))
    (cases_lt i (length p)))

-- ---- the lists of the specification

pub length-poly_sum : (p q : List ℕ) → length (poly_sum p q) ≡ max (length p) (length q)
length-poly_sum p q =
    length-map-range_with_len (λ (k : ℕ). word_sum (get_or p k 0) (get_or q k 0)) 0 (max (length p) (length q))

pub get_or-poly_sum : (p q : List ℕ) (k : ℕ) → get_or (poly_sum p q) k 0 ≡ (get_or p k 0 + get_or q k 0) % modulus
get_or-poly_sum p q k =
    ⊎_elim
    (λ (l : k < max (length p) (length q)).
    get_or-map-range_with_len (λ (i : ℕ). word_sum (get_or p i 0) (get_or q i 0)) 0 (max (length p) (length q)) k k 0
    l (omega arith))
    (λ (l : max (length p) (length q) ≤ k).
    let left : get_or p k 0 ≡ 0 = get_or_past p k 0 (omega arith) in
    let right : get_or q k 0 ≡ 0 = get_or_past q k 0 (omega arith) in
    let size : length (poly_sum p q) ≡ max (length p) (length q) = length-poly_sum p q in
    get_or_past (poly_sum p q) k 0 (omega arith)
    ∙ ap₂ (λ (a b : ℕ). (a + b) % modulus) (sym left) (sym right))
    (cases_lt k (max (length p) (length q)))

pub length-poly_product : (p q : List ℕ) → length (poly_product p q) ≡ length p + length q - 1
length-poly_product p q =
    length-map-range_with_len (λ (k : ℕ). product_coefficient p q k) 0 (length p + length q - 1)

pub get_or-poly_product : (p q : List ℕ) (k : ℕ) → get_or (poly_product p q) k 0 ≡ convolution p q k % modulus
get_or-poly_product p q k =
    ⊎_elim
    (λ (l : k < length p + length q - 1).
    get_or-map-range_with_len (λ (i : ℕ). product_coefficient p q i) 0 (length p + length q - 1) k k 0 l
    (omega arith))
    (λ (l : length p + length q - 1 ≤ k).
    let none : convolution p q k ≡ 0 = convolution-past p q k (omega arith) in
    let size : length (poly_product p q) ≡ length p + length q - 1 = length-poly_product p q in
    get_or_past (poly_product p q) k 0 (omega arith) ∙ ap (λ (n : ℕ). n % modulus) (sym none))
    (cases_lt k (length p + length q - 1))

pub horner-poly_sum : (p q : List ℕ) (t : ℕ) → Same (horner (poly_sum p q) t) (horner p t + horner q t)
horner-poly_sum p q t =
    horner_same (poly_sum p q) (sum_of p q) t
    (λ (k : ℕ).
    ap (λ (n : ℕ). n % modulus) (get_or-poly_sum p q k) ∙ same_mod (get_or p k 0 + get_or q k 0)
    ∙ ap (λ (n : ℕ). n % modulus) (sym (get_or-sum_of p q k)))
    ∙ ap (λ (n : ℕ). n % modulus) (horner-sum_of p q t)

pub horner-poly_product : (p q : List ℕ) (t : ℕ) → Same (horner (poly_product p q) t) (horner p t * horner q t)
horner-poly_product p q t =
    horner_same (poly_product p q) (product_of p q) t
    (λ (k : ℕ).
    ap (λ (n : ℕ). n % modulus) (get_or-poly_product p q k) ∙ same_mod (convolution p q k)
    ∙ ap (λ (n : ℕ). n % modulus) (sym (get_or-product_of p q k)))
    ∙ ap (λ (n : ℕ). n % modulus) (horner-product_of p q t)

of_value : (cs : List ℕ) (t : ℕ) → Same (value_at cs t) (horner cs t)
of_value cs t = ap (λ (n : ℕ). n % modulus) (value_at-horner cs t) ∙ same_mod (horner cs t)

pub value_at-poly_sum : (p q : List ℕ) (t : ℕ) → value_at (poly_sum p q) t ≡ (value_at p t + value_at q t) % modulus
value_at-poly_sum p q t =
    value_at-horner (poly_sum p q) t ∙ horner-poly_sum p q t
    ∙ sym (same_add _ (horner p t) _ (horner q t) (of_value p t) (of_value q t))

pub value_at-poly_product : (p q : List ℕ) (t : ℕ) → value_at (poly_product p q) t ≡ (value_at p t * value_at q t) % modulus
value_at-poly_product p q t =
    value_at-horner (poly_product p q) t ∙ horner-poly_product p q t
    ∙ sym (same_mul _ (horner p t) _ (horner q t) (of_value p t) (of_value q t))

-- ---- degrees

pub degree-poly_sum : (p q : List ℕ) (d : ℕ) → HasDegreeAtMost p d → HasDegreeAtMost q d → HasDegreeAtMost (poly_sum p q) d
degree-poly_sum p q d left right i above =
    get_or-poly_sum p q i ∙ ap₂ (λ (a b : ℕ). (a + b) % modulus) (left i above) (right i above)

pub degree-poly_product : (p q : List ℕ) (a b : ℕ) → HasDegreeAtMost p a → HasDegreeAtMost q b
    → HasDegreeAtMost (poly_product p q) (a + b)
degree-poly_product p q a b left right k above =
    get_or-poly_product p q k
    ∙ ap (λ (n : ℕ). n % modulus)
    (sum_to-zero (λ (i : ℕ). summand p q k i) (k + 1)
    (λ (i : ℕ) (h : i < k + 1).
    ⊎_elim (λ (l : a < i). zero_times (get_or p i 0) (get_or q (k - i) 0) (left i l))
    (λ (l : i ≤ a).
    let over : b < k - i = omega arith in
    times_zero (get_or p i 0) (get_or q (k - i) 0) (right (k - i) over)) (cases_lt a i)))

-- ---- a coefficient of the product as the program sums it

-- the summands before the first index at which both polynomials have a coefficient
pub sum_before : (p q : List ℕ) (k first : ℕ) → first ≡ k + 1 - length q → sum_to (λ (i : ℕ). summand p q k i) first ≡ 0
sum_before p q k first e =
    sum_to-zero (λ (i : ℕ). summand p q k i) first
    (λ (i : ℕ) (h : i < first).
    times_zero (get_or p i 0) (get_or q (k - i) 0) (get_or_past q (k - i) 0 (omega arith)))

-- the summands from the end of p on
pub sum_after : (p q : List ℕ) (k end : ℕ) → end ≡ min (length p) (k + 1)
    → convolution p q k ≡ sum_to (λ (i : ℕ). summand p q k i) end
sum_after p q k end e =
    sum_to-flat (λ (i : ℕ). summand p q k i) end (k + 1) (omega arith)
    (λ (i : ℕ) (l : end ≤ i) (h : i < k + 1).
    zero_times (get_or p i 0) (get_or q (k - i) 0) (get_or_past p i 0 (omega arith)))

-- one summand more
pub sum_turn : (p q : List ℕ) (k i s x y : ℕ) → i < length p → k - i < length q → x ≡ get_or p i x → y ≡ get_or q (k - i) y
    → s ≡ sum_to (λ (j : ℕ). summand p q k j) i % modulus
    → (s + (x * y) % modulus) % modulus ≡ sum_to (λ (j : ℕ). summand p q k j) (i + 1) % modulus
sum_turn p q k i s x y in_p in_q read_p read_q before =
    let left : x ≡ get_or p i 0 = get_or_read p i x in_p read_p 0 in
    let right : y ≡ get_or q (k - i) 0 = get_or_read q (k - i) y in_q read_q 0 in
    let more : sum_to (λ (j : ℕ). summand p q k j) (i + 1) ≡ sum_to (λ (j : ℕ). summand p q k j) i + summand p q k i =
    ap (λ (n : ℕ). sum_to (λ (j : ℕ). summand p q k j) n) (add-one i) ∙ sum_to-suc (λ (j : ℕ). summand p q k j) i in
    same_add s (sum_to (λ (j : ℕ). summand p q k j) i) ((x * y) % modulus) (summand p q k i)
    (ap (λ (n : ℕ). n % modulus) before ∙ same_mod (sum_to (λ (j : ℕ). summand p q k j) i))
    (same_mod (x * y) ∙ ap₂ (λ (a b : ℕ). (a * b) % modulus) left right)
    ∙ ap (λ (n : ℕ). n % modulus) (sym more)
