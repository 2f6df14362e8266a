-- The weights of a domain's points: a value is the inner product with them, and those of a size come from those of half
-- the size at the square of the point. From sums of powers up.
use Rattle.std.proofs.Common.{ℕ, suc, zero, ◌≡◌, ◌+◌, ◌*◌, ◌%◌, ◌^◌, ◌<◌, List, [], ◌∷◌, length, get_or, map, arith, ap, ap₂, sym, ◌∙◌, refl}
use Rattle.std.specs.List.{range_with_len}
use Rattle.std.proofs.Math.Nat.{pow-suc}
use Rattle.std.proofs.lemmas.List.FromFn.{length-map-range_with_len, get_or-map-range_with_len}
use Rattle.flp_field.specs.Word.{modulus, word_power, word_product}
use Rattle.flp_field.specs.Sums.{dot_product}
use Rattle.flp_field.proofs.Congruence.{Same, same_mul, same_pow, same_mod}
use Rattle.flp_field.proofs.Powers.{square-pow}
use Rattle.flp_field.proofs.SumLemmas.{sum_to, sum_to-suc, sum_to-first, sum_to-same, sum_to-zero, sum_to-times, sum_to-congruent}
use Rattle.flp_poly.specs.Polynomial.{value_at}
use Rattle.flp_poly.specs.Interpolation.{inverse_root, inverse_size, interpolated}
use Rattle.flp_poly.specs.Weights.{ones_at, ones_along, weight, weights}
use Rattle.flp_poly.proofs.Horner.{horner, value_at-horner}
use Rattle.flp_poly.proofs.Interpolation.{horner-indexes, power_sum, twice, twice-cons, coefficient, coefficient_is, power_shifted, start_power, swapped_product, times_zero}

-- ---- sums of powers

pub power_sum-same : (u v n : ℕ) → Same u v → Same (power_sum u n) (power_sum v n)
power_sum-same u v n e =
    sum_to-congruent (λ (j : ℕ). u ^ j) (λ (j : ℕ). v ^ j) n (λ (j : ℕ) (h : j < n). same_pow u v j e)

pub ones-power_sum : (n z : ℕ) → ones_at n z ≡ power_sum z n % modulus
ones-power_sum n z =
    sum_to-congruent (λ (j : ℕ). z ^ j % modulus) (λ (j : ℕ). z ^ j) n (λ (j : ℕ) (h : j < n). same_mod (z ^ j))

-- what is summed along a root, with one remainder
pub ones_along-is : (size scale root t i : ℕ)
    → ones_along size scale root t i ≡ (scale * power_sum (t * root ^ i) size) % modulus
ones_along-is size scale root t i =
    same_mul scale scale (ones_at size (word_product t (word_power root i))) (power_sum (t * root ^ i) size) refl
    (ap (λ (x : ℕ). x % modulus) (ones-power_sum size (word_product t (word_power root i)))
    ∙ same_mod (power_sum (word_product t (word_power root i)) size)
    ∙ power_sum-same (word_product t (word_power root i)) (t * root ^ i) size
    (same_mod (t * word_power root i) ∙ same_mul t t (word_power root i) (root ^ i) refl (same_mod (root ^ i))))

-- twice as many powers are the powers of the square, each once and once times the word
pub power_sum-double : (z n : ℕ) → power_sum z (n + n) ≡ (1 + z) * power_sum (z * z) n
power_sum-double z zero = omega arith
power_sum-double z (suc n) =
    let count : suc n + suc n ≡ suc (suc (n + n)) = omega arith in
    let outer : power_sum z (suc (suc (n + n))) ≡ power_sum z (suc (n + n)) + z ^ suc (n + n) =
    sum_to-suc (λ (j : ℕ). z ^ j) (suc (n + n)) in
    let inner : power_sum z (suc (n + n)) ≡ power_sum z (n + n) + z ^ (n + n) = sum_to-suc (λ (j : ℕ). z ^ j) (n + n) in
    let power : z ^ suc (n + n) ≡ z ^ (n + n) * z = pow-suc z (n + n) in
    let rest : power_sum z (n + n) ≡ (1 + z) * power_sum (z * z) n = power_sum-double z n in
    let more : power_sum (z * z) (suc n) ≡ power_sum (z * z) n + z ^ (n + n) =
    sum_to-suc (λ (j : ℕ). (z * z) ^ j) n ∙ ap (λ (x : ℕ). power_sum (z * z) n + x) (square-pow z n) in
    let spread : (1 + z) * (power_sum (z * z) n + z ^ (n + n))
    ≡ (1 + z) * power_sum (z * z) n + z ^ (n + n) + z ^ (n + n) * z = omega arith in
    ap (λ (k : ℕ). power_sum z k) count ∙ outer ∙ ap₂ (λ (x y : ℕ). x + y) inner power
    ∙ ap (λ (x : ℕ). x + z ^ (n + n) + z ^ (n + n) * z) rest ∙ sym spread
    ∙ ap (λ (x : ℕ). (1 + z) * x) (sym more)

-- ---- a value as an inner product

-- the transform of a transform, each value apart
twice-values : (size b u : ℕ) (ys : List ℕ)
    → twice size b u ys ≡ sum_to (λ (i : ℕ). get_or ys i 0 * power_sum (u * b ^ i) size) (length ys)
twice-values size b u [] = sum_to-zero (λ (j : ℕ). u ^ j * 0) size (λ (j : ℕ) (h : j < size). times_zero (u ^ j))
twice-values size b u (y ∷ ys) =
    let rest : twice size b (u * b) ys ≡ sum_to (λ (i : ℕ). get_or ys i 0 * power_sum (u * b * b ^ i) size) (length ys) =
    twice-values size b (u * b) ys in
    let shifted : sum_to (λ (i : ℕ). get_or ys i 0 * power_sum (u * b * b ^ i) size) (length ys)
    ≡ sum_to (λ (i : ℕ). get_or ys i 0 * power_sum (u * b ^ suc i) size) (length ys) =
    sum_to-same (λ (i : ℕ). get_or ys i 0 * power_sum (u * b * b ^ i) size)
    (λ (i : ℕ). get_or ys i 0 * power_sum (u * b ^ suc i) size) (length ys)
    (λ (i : ℕ) (h : i < length ys). ap (λ (x : ℕ). get_or ys i 0 * power_sum x size) (power_shifted u b i)) in
    twice-cons size b u y ys
    ∙ ap₂ (λ (x w : ℕ). y * power_sum x size + w) (sym (start_power u b)) (rest ∙ shifted)
    ∙ sym (sum_to-first (λ (i : ℕ). get_or (y ∷ ys) i 0 * power_sum (u * b ^ i) size) (length ys))

turned_product : (s y p : ℕ) → s * (y * p) ≡ s * p * y
turned_product s y p = omega arith

pub get_or-weights : (size t k : ℕ) → k < size → get_or (weights size t) k 0 ≡ weight size t k
get_or-weights size t k below = get_or-map-range_with_len (weight size t) 0 size k k 0 below (omega arith)

pub length-weights : (size t : ℕ) → length (weights size t) ≡ size
length-weights size t = length-map-range_with_len (weight size t) 0 size

pub weight-is : (size t i : ℕ) → Same (weight size t i) (inverse_size size * power_sum (t * inverse_root size ^ i) size)
unfolding weight
weight-is size t i =
    ap (λ (x : ℕ). x % modulus) (ones_along-is size (inverse_size size) (inverse_root size) t i)
    ∙ same_mod (inverse_size size * power_sum (t * inverse_root size ^ i) size)

value_of-interpolated : (n t : ℕ) (ys : List ℕ)
    → Same (horner (map (coefficient n ys) (range_with_len 0 n)) t) (inverse_size n * twice n (inverse_root n) t ys)
value_of-interpolated n t ys =
    ap (λ (x : ℕ). x % modulus) (horner-indexes (coefficient n ys) n t)
    ∙ sum_to-congruent (λ (j : ℕ). coefficient n ys j * t ^ j)
    (λ (j : ℕ). inverse_size n * (t ^ j * horner ys (inverse_root n ^ j))) n
    (λ (j : ℕ) (h : j < n).
    same_mul (coefficient n ys j) (inverse_size n * horner ys (inverse_root n ^ j)) (t ^ j) (t ^ j)
    (coefficient_is n j ys) refl
    ∙ ap (λ (x : ℕ). x % modulus) (swapped_product (inverse_size n) (horner ys (inverse_root n ^ j)) (t ^ j)))
    ∙ ap (λ (x : ℕ). x % modulus) (sum_to-times (inverse_size n) (λ (j : ℕ). t ^ j * horner ys (inverse_root n ^ j)) n)

-- the value of the polynomial through values is their inner product with the weights
pub weights_give_value : (t : ℕ) (values : List ℕ) → value_at (interpolated values) t ≡ dot_product (weights (length values) t) values
unfolding interpolated
weights_give_value t values =
    value_at-horner (map (coefficient (length values) values) (range_with_len 0 (length values))) t
    ∙ value_of-interpolated (length values) t values
    ∙ same_mul (inverse_size (length values)) (inverse_size (length values)) _ _ refl
    (ap (λ (x : ℕ). x % modulus) (twice-values (length values) (inverse_root (length values)) t values))
    ∙ ap (λ (x : ℕ). x % modulus)
    (sym
    (sum_to-times (inverse_size (length values))
    (λ (i : ℕ). get_or values i 0 * power_sum (t * inverse_root (length values) ^ i) (length values)) (length values)))
    ∙ sum_to-congruent
    (λ (i : ℕ). inverse_size (length values)
    * (get_or values i 0 * power_sum (t * inverse_root (length values) ^ i) (length values)))
    (λ (i : ℕ). get_or (weights (length values) t) i 0 * get_or values i 0) (length values)
    (λ (i : ℕ) (h : i < length values).
    ap (λ (x : ℕ). x % modulus)
    (turned_product (inverse_size (length values)) (get_or values i 0)
    (power_sum (t * inverse_root (length values) ^ i) (length values)))
    ∙ same_mul _ (get_or (weights (length values) t) i 0) (get_or values i 0) (get_or values i 0)
    (sym
    (ap (λ (x : ℕ). x % modulus) (get_or-weights (length values) t i h) ∙ weight-is (length values) t i)) refl)
    ∙ ap (λ (k : ℕ). sum_to (λ (i : ℕ). get_or (weights (length values) t) i 0 * get_or values i 0) k % modulus)
    (sym (length-weights (length values) t))
