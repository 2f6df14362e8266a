-- The value at a point outside a domain by inverses: the sum of the powers of a quotient is a geometric one. From one
-- weight up to the formula.
use Rattle.std.proofs.Common.{ℕ, suc, zero, ◌≡◌, ◌+◌, ◌-◌, ◌*◌, ◌%◌, ◌^◌, ◌<◌, ◌≤◌, List, length, get_or, arith, ap, sym, subst, ◌∙◌, refl, ⊎_elim}
use Rattle.std.specs.List.{sum, Contains}
use Rattle.std.proofs.Math.Nat.{mul_comm}
use Rattle.std.proofs.lemmas.Nat.{mul-pow}
use Rattle.std.proofs.lemmas.Bool.{cases_eq}
use Rattle.flp_field.specs.Word.{modulus, word_difference, word_power}
use Rattle.flp_field.specs.Order.{HasOrder}
use Rattle.flp_field.specs.Domain.{alpha, powers_of, domain}
use Rattle.flp_field.proofs.Congruence.{Same, same_add, same_mul, same_pow, same_mod, same_cancel, mod_word}
use Rattle.flp_field.proofs.Powers.{pow-pow}
use Rattle.flp_field.proofs.Order.{group_size_is, inverse_by_power, more_ones}
use Rattle.flp_field.proofs.RootsOfUnity.{alpha-order, geometric, length-powers_of, get_or-powers_of}
use Rattle.flp_field.proofs.SumLemmas.{sum_to, sum_to-times, sum_to-congruent}
use Rattle.flp_poly.specs.Polynomial.{value_at}
use Rattle.flp_poly.specs.Interpolation.{inverse_root, inverse_size, interpolated}
use Rattle.flp_poly.specs.Weights.{weights}
use Rattle.flp_poly.proofs.Interpolation.{power_sum, inverse-times, inverse-powers}
use Rattle.flp_poly.proofs.WeightLemmas.{weight-is, weights_give_value, get_or-weights, length-weights, ones-power_sum}
use Rattle.flp_ntt.specs.PointFormula.{word_inverse, part_at, formula}

above_zero : (x : ℕ) → (x ≡ 0 → ⊥) → 0 < x
above_zero zero some = absurd (some refl)
above_zero (suc x) some = omega arith

-- ---- the inverse of a word

pub inverse_is_inverse : (a : ℕ) → 0 < a → a < modulus → (a * word_inverse a) % modulus ≡ 1
unfolding word_inverse
inverse_is_inverse a some below = inverse_by_power a 18446744069414584319 (sym group_size_is) some below

-- ---- a geometric sum

-- the sum of the first powers of z, and one power more
power_sum-geometric : (z n : ℕ) → Same (z * power_sum z n + 1) (power_sum z n + z ^ n)
power_sum-geometric z n =
    let same : Same (sum (powers_of z n)) (power_sum z n) = ones-power_sum n z in
    same_add (z * power_sum z n) (z * sum (powers_of z n)) 1 1
    (same_mul z z (power_sum z n) (sum (powers_of z n)) refl (sym same)) refl
    ∙ geometric z n
    ∙ same_add (sum (powers_of z n)) (power_sum z n) (z ^ n) (z ^ n) same refl

-- with a z = t: t s + a = a s + a z^n
turned_sum : (a t z s p : ℕ) → Same (a * z) t → Same (z * s + 1) (s + p) → Same (t * s + a) (a * s + a * p)
turned_sum a t z s p point sum =
    let left : a * z * s + a ≡ a * (z * s + 1) = omega arith in
    let right : a * (s + p) ≡ a * s + a * p = omega arith in
    same_add (t * s) (a * z * s) a a (same_mul t (a * z) s s (sym point) refl) refl
    ∙ ap (λ (x : ℕ). x % modulus) left ∙ same_mul a a (z * s + 1) (s + p) refl sum ∙ ap (λ (x : ℕ). x % modulus) right

-- a difference and what was taken off
difference_plus : (t a : ℕ) → Same (word_difference t (a % modulus) + a) t
difference_plus t a = omega arith

-- the difference d of t and a, times s
difference_times : (a t z s p d : ℕ) → Same (d + a) t → Same (a * z) t → Same (z * s + 1) (s + p)
    → Same (d * s + a) (a * p)
difference_times a t z s p d difference point sum =
    let spread : d * s + a + a * s ≡ (d + a) * s + a = omega arith in
    let turned : a * s + a * p ≡ a * p + a * s = omega arith in
    same_cancel (d * s + a) (a * p) (a * s)
    (ap (λ (x : ℕ). x % modulus) spread
    ∙ same_add ((d + a) * s) (t * s) a a (same_mul (d + a) t s s difference refl) refl
    ∙ turned_sum a t z s p point sum ∙ ap (λ (x : ℕ). x % modulus) turned)

-- so s is a f / d, where f is z^n - 1 and e is the inverse of d
sum_is : (a t z s p d e f : ℕ) → Same (d + a) t → Same (a * z) t → Same (z * s + 1) (s + p) → Same (f + 1) p
    → Same (d * e) 1 → Same s (f * (a * e))
sum_is a t z s p d e f difference point sum less inverse =
    let spread : a * (f + 1) ≡ a * f + a = omega arith in
    let times : Same (d * s) (a * f) =
    same_cancel (d * s) (a * f) a
    (difference_times a t z s p d difference point sum ∙ same_mul a a p (f + 1) refl (sym less)
    ∙ ap (λ (x : ℕ). x % modulus) spread) in
    let left : s ≡ 1 * s = omega arith in
    let turned : d * e * s ≡ d * s * e = omega arith in
    let right : a * f * e ≡ f * (a * e) = omega arith in
    ap (λ (x : ℕ). x % modulus) left ∙ same_mul 1 (d * e) s s (sym inverse) refl
    ∙ ap (λ (x : ℕ). x % modulus) turned ∙ same_mul (d * s) (a * f) e e times refl ∙ ap (λ (x : ℕ). x % modulus) right

-- ---- one weight

-- a point outside the domain differs from each point of it
apart : (n t i : ℕ) → t < modulus → i < n → (Contains (domain n) t → ⊥)
    → 0 < word_difference t (word_power (alpha n) i)
apart n t i word below outside =
    let size : length (domain n) ≡ n = length-powers_of (alpha n) n in
    let other : word_power (alpha n) i < modulus = mod_word (alpha n ^ i) in
    ⊎_elim
    (λ (none : word_difference t (word_power (alpha n) i) ≡ 0).
    let same : word_power (alpha n) i ≡ t = omega arith in
    absurd (outside (i, omega arith, get_or-powers_of (alpha n) n i t below ∙ same)))
    (λ (some : word_difference t (word_power (alpha n) i) ≡ 0 → ⊥). above_zero _ some)
    (cases_eq (word_difference t (word_power (alpha n) i)) 0)

-- the power of the point less 1
abbrev pub power_less_one : (n t : ℕ) → ℕ
power_less_one n t = word_difference (word_power t n) 1

less_one : (n t : ℕ) → Same (power_less_one n t + 1) (t ^ n)
less_one n t = omega arith

-- the sum of powers in the weight of a point
part_sum : (n t i : ℕ) → HasOrder (alpha n) n → t < modulus → i < n → (Contains (domain n) t → ⊥)
    → Same (power_sum (t * inverse_root n ^ i) n) (power_less_one n t * part_at n t i)
part_sum n t i order word below outside =
    let inverse : Same (inverse_root n * alpha n) 1 = inverse-times (alpha n) n order.positive order.returns in
    let pair : Same (inverse_root n ^ i * alpha n ^ i) 1 = inverse-powers (alpha n) (inverse_root n) i inverse in
    let root_full : inverse_root n ^ n % modulus ≡ 1 =
    same_pow (inverse_root n) (alpha n ^ (n - 1)) n (same_mod (alpha n ^ (n - 1)))
    ∙ ap (λ (x : ℕ). x % modulus)
    (pow-pow (alpha n) (n - 1) n ∙ ap (λ (e : ℕ). alpha n ^ e) (mul_comm (n - 1) n))
    ∙ more_ones (alpha n) n (n - 1) order.returns in
    let full : (inverse_root n ^ i) ^ n % modulus ≡ 1 =
    ap (λ (x : ℕ). x % modulus)
    (pow-pow (inverse_root n) i n ∙ ap (λ (e : ℕ). inverse_root n ^ e) (mul_comm i n))
    ∙ more_ones (inverse_root n) n i root_full in
    let grouped : alpha n ^ i * (t * inverse_root n ^ i) ≡ t * (inverse_root n ^ i * alpha n ^ i) = omega arith in
    let right : t * 1 ≡ t = omega arith in
    let right_power : t ^ n * 1 ≡ t ^ n = omega arith in
    let point : Same (alpha n ^ i * (t * inverse_root n ^ i)) t =
    ap (λ (x : ℕ). x % modulus) grouped
    ∙ same_mul t t (inverse_root n ^ i * alpha n ^ i) 1 refl pair ∙ ap (λ (x : ℕ). x % modulus) right in
    let power : Same ((t * inverse_root n ^ i) ^ n) (t ^ n) =
    ap (λ (x : ℕ). x % modulus) (mul-pow t (inverse_root n ^ i) n)
    ∙ same_mul (t ^ n) (t ^ n) ((inverse_root n ^ i) ^ n) 1 refl full ∙ ap (λ (x : ℕ). x % modulus) right_power in
    let d_word : word_difference t (word_power (alpha n) i) < modulus =
    mod_word (t + (modulus - word_power (alpha n) i)) in
    sum_is (alpha n ^ i) t (t * inverse_root n ^ i) (power_sum (t * inverse_root n ^ i) n) ((t * inverse_root n ^ i) ^ n)
    (word_difference t (word_power (alpha n) i)) (word_inverse (word_difference t (word_power (alpha n) i)))
    (power_less_one n t) (difference_plus t (alpha n ^ i)) point
    (power_sum-geometric (t * inverse_root n ^ i) n) (less_one n t ∙ sym power)
    (inverse_is_inverse (word_difference t (word_power (alpha n) i)) (apart n t i word below outside) d_word ∙ refl)
    ∙ same_mul (power_less_one n t) (power_less_one n t) _ (part_at n t i) refl
    (sym
    (same_mod (word_power (alpha n) i * word_inverse (word_difference t (word_power (alpha n) i)))
    ∙ same_mul (word_power (alpha n) i) (alpha n ^ i) (word_inverse (word_difference t (word_power (alpha n) i)))
    (word_inverse (word_difference t (word_power (alpha n) i))) (same_mod (alpha n ^ i)) refl))

-- ---- the formula

regrouped : (s f p y : ℕ) → s * (f * p) * y ≡ f * s * (y * p)
regrouped s f p y = omega arith

formula_at : (n t : ℕ) (values : List ℕ) → HasOrder (alpha n) n → t < modulus → (Contains (domain n) t → ⊥)
    → Same (sum_to (λ (i : ℕ). get_or (weights n t) i 0 * get_or values i 0) n)
    (power_less_one n t * inverse_size n * sum_to (λ (i : ℕ). get_or values i 0 * part_at n t i) n)
formula_at n t values order word outside =
    sum_to-congruent (λ (i : ℕ). get_or (weights n t) i 0 * get_or values i 0)
    (λ (i : ℕ). power_less_one n t * inverse_size n * (get_or values i 0 * part_at n t i)) n
    (λ (i : ℕ) (below : i < n).
    same_mul (get_or (weights n t) i 0) (inverse_size n * (power_less_one n t * part_at n t i)) (get_or values i 0)
    (get_or values i 0)
    (ap (λ (x : ℕ). x % modulus) (get_or-weights n t i below) ∙ weight-is n t i
    ∙ same_mul (inverse_size n) (inverse_size n) (power_sum (t * inverse_root n ^ i) n)
    (power_less_one n t * part_at n t i) refl (part_sum n t i order word below outside)) refl
    ∙ ap (λ (x : ℕ). x % modulus)
    (regrouped (inverse_size n) (power_less_one n t) (part_at n t i) (get_or values i 0)))
    ∙ ap (λ (x : ℕ). x % modulus)
    (sum_to-times (power_less_one n t * inverse_size n) (λ (i : ℕ). get_or values i 0 * part_at n t i) n)

pub at_point_formula : (log t : ℕ) (values : List ℕ) → log ≤ 32 → length values ≡ 2 ^ log → t < modulus
    → (Contains (domain (2 ^ log)) t → ⊥) → value_at (interpolated values) t ≡ formula values t
at_point_formula log t values small size word outside =
    let O : ℕ → Type 0 = λ (n : ℕ). HasOrder (alpha n) n in
    let D : ℕ → Type 0 = λ (n : ℕ). Contains (domain n) t → ⊥ in
    weights_give_value t values
    ∙ ap
    (λ (k : ℕ). sum_to (λ (i : ℕ). get_or (weights (length values) t) i 0 * get_or values i 0) k % modulus)
    (length-weights (length values) t)
    ∙ formula_at (length values) t values (subst O (sym size) (alpha-order log small)) word
    (subst D (sym size) outside)
    ∙ sym
    (same_mul _ (power_less_one (length values) t * inverse_size (length values)) _
    (sum_to (λ (i : ℕ). get_or values i 0 * part_at (length values) t i) (length values))
    (same_mod (power_less_one (length values) t * inverse_size (length values)))
    (same_mod (sum_to (λ (i : ℕ). get_or values i 0 * part_at (length values) t i) (length values))))
