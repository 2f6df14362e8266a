-- The polynomial through values on a domain: the transform with the inverse root, over the size, undoes the transform,
-- since the powers of a root other than 1 sum to 0. From the sums of powers up to the laws.
use Rattle.std.proofs.Common.{ℕ, suc, zero, ◌≡◌, ◌+◌, ◌-◌, ◌*◌, ◌/◌, ◌%◌, ◌^◌, ◌<◌, ◌≤◌, List, [], ◌∷◌, ◌++◌, length, get_or, map, arith, ap, sym, subst, ◌∙◌, refl, ⊎_elim, add-one}
use Rattle.std.specs.List.{range_with_len}
use Rattle.std.proofs.Math.Nat.{pow-suc, pow-zero, mul_comm, mul-div_cancel}
use Rattle.std.proofs.lemmas.Nat.{pow-add, mul-pow, pow_pos}
use Rattle.std.proofs.lemmas.Bool.{cases_lt}
use Rattle.std.proofs.lemmas.List.{ext_get_or}
use Rattle.std.proofs.lemmas.List.FromFn.{length-map-range_with_len, get_or-map-range_with_len, map-range_with_len_more}
use Rattle.flp_field.specs.Word.{modulus, AreWords, word_power, word_product}
use Rattle.flp_field.specs.Order.{HasOrder}
use Rattle.flp_field.specs.Domain.{alpha}
use Rattle.flp_field.proofs.Congruence.{Same, same_add, same_mul, same_pow, same_mod, mod_word, word_mod}
use Rattle.flp_field.proofs.Powers.{pow-pow, one-pow}
use Rattle.flp_field.proofs.Order.{more_ones}
use Rattle.flp_field.proofs.RootsOfUnity.{alpha-order, powers_apart, sum-of_root, sum-of_ones}
use Rattle.flp_poly.specs.Polynomial.{value_at, values_on}
use Rattle.flp_poly.specs.Interpolation.{Interpolates, inverse_root, inverse_size, interpolated}
use Rattle.flp_field.proofs.SumLemmas.{sum_to, sum_to-same, sum_to-zero, sum_to-plus, sum_to-times, sum_to-congruent, sum_to-suc}
use Rattle.flp_poly.proofs.Horner.{horner, value_at-horner, horner-append, horner_point}
use Rattle.flp_poly.proofs.Vanishing.{values_determine, length-values_on, get_or-values_on}

-- ---- a value as a sum over indexes

pub horner-indexes : (f : ℕ → ℕ) (n t : ℕ) → horner (map f (range_with_len 0 n)) t ≡ sum_to (λ (j : ℕ). f j * t ^ j) n
horner-indexes f zero t = refl
horner-indexes f (suc n) t =
    let size : length (map f (range_with_len 0 n)) ≡ n = length-map-range_with_len f 0 n in
    let more : map f (range_with_len 0 (suc n)) ≡ map f (range_with_len 0 n) ++ (f n ∷ []) =
    ap (λ (k : ℕ). map f (range_with_len 0 k)) (sym (add-one n)) ∙ map-range_with_len_more f 0 n n (omega arith) in
    let split : horner (map f (range_with_len 0 n) ++ (f n ∷ [])) t
    ≡ horner (map f (range_with_len 0 n)) t + t ^ length (map f (range_with_len 0 n)) * (f n + t * 0) =
    horner-append (map f (range_with_len 0 n)) (f n ∷ []) t in
    let power : t ^ length (map f (range_with_len 0 n)) * (f n + t * 0) ≡ t ^ n * (f n + t * 0) =
    ap (λ (k : ℕ). t ^ k * (f n + t * 0)) size in
    let rest : horner (map f (range_with_len 0 n)) t ≡ sum_to (λ (j : ℕ). f j * t ^ j) n = horner-indexes f n t in
    let last : sum_to (λ (j : ℕ). f j * t ^ j) (suc n) ≡ sum_to (λ (j : ℕ). f j * t ^ j) n + f n * t ^ n =
    sum_to-suc (λ (j : ℕ). f j * t ^ j) n in
    ap (λ (l : List ℕ). horner l t) more ∙ (omega arith)

-- ---- the transform of a transform

-- the sum of the first powers of a word
abbrev pub power_sum : ℕ → ℕ → ℕ
power_sum u size = sum_to (λ (j : ℕ). u ^ j) size

-- the values of ys at the powers of b, summed with the powers of x times a power of b
abbrev pub twice : ℕ → ℕ → ℕ → List ℕ → ℕ
twice size b u ys = sum_to (λ (j : ℕ). u ^ j * horner ys (b ^ j)) size

summand_opened : (u b y h : ℕ) → u * (y + b * h) ≡ y * u + u * b * h
summand_opened u b y h = omega arith

-- the first value apart
pub twice-cons : (size b u y : ℕ) (ys : List ℕ)
    → twice size b u (y ∷ ys) ≡ y * power_sum u size + twice size b (u * b) ys
twice-cons size b u y ys =
    sum_to-same (λ (j : ℕ). u ^ j * horner (y ∷ ys) (b ^ j))
    (λ (j : ℕ). y * u ^ j + (u * b) ^ j * horner ys (b ^ j)) size
    (λ (j : ℕ) (h : j < size).
    summand_opened (u ^ j) (b ^ j) y (horner ys (b ^ j))
    ∙ ap (λ (w : ℕ). y * u ^ j + w * horner ys (b ^ j)) (sym (mul-pow u b j)))
    ∙ sum_to-plus (λ (j : ℕ). y * u ^ j) (λ (j : ℕ). (u * b) ^ j * horner ys (b ^ j)) size
    ∙ ap (λ (s : ℕ). s + twice size b (u * b) ys) (sum_to-times y (λ (j : ℕ). u ^ j) size)

pub times_zero : (x : ℕ) → x * 0 ≡ 0
times_zero x = omega arith

pub power_shifted : (u b i : ℕ) → u * b * b ^ i ≡ u * b ^ suc i
power_shifted u b i = let power : b ^ suc i ≡ b ^ i * b = pow-suc b i in
    let turned : u * (b ^ i * b) ≡ u * b * b ^ i = omega arith in
    sym turned ∙ ap (λ (x : ℕ). u * x) (sym power)

pub start_power : (u b : ℕ) → u * b ^ 0 ≡ u
start_power u b = ap (λ (x : ℕ). u * x) (pow-zero b) ∙ (omega arith)

sum_parts : (y s a b c : ℕ) → Same s a → Same b c → Same (y * s + b) (y * a + c)
sum_parts y s a b c e f = same_add (y * s) (y * a) b c (same_mul y y s a refl e) f

-- where no power is 1, nothing is left
twice-none : (size b u : ℕ) (ys : List ℕ)
    → ((i : ℕ) → i < length ys → Same (power_sum (u * b ^ i) size) 0) → Same (twice size b u ys) 0
twice-none size b u [] none =
    ap (λ (x : ℕ). x % modulus)
    (sum_to-zero (λ (j : ℕ). u ^ j * 0) size (λ (j : ℕ) (h : j < size). times_zero (u ^ j)))
twice-none size b u (y ∷ ys) none =
    let first : Same (power_sum u size) 0 =
    ap (λ (x : ℕ). power_sum x size % modulus) (sym (start_power u b)) ∙ none 0 (omega arith) in
    let rest : Same (twice size b (u * b) ys) 0 =
    twice-none size b (u * b) ys
    (λ (i : ℕ) (h : i < length ys).
    ap (λ (x : ℕ). power_sum x size % modulus) (power_shifted u b i) ∙ none (suc i) (omega arith)) in
    let nothing : y * 0 + 0 ≡ 0 = omega arith in
    ap (λ (x : ℕ). x % modulus) (twice-cons size b u y ys)
    ∙ sum_parts y (power_sum u size) 0 (twice size b (u * b) ys) 0 first rest
    ∙ ap (λ (x : ℕ). x % modulus) nothing

-- where one power is 1, the value with its index is left, as often as there are points
twice-one : (size b u : ℕ) (ys : List ℕ) (k : ℕ) → k < length ys → Same (power_sum (u * b ^ k) size) size
    → ((i : ℕ) → i < length ys → (i ≡ k → ⊥) → Same (power_sum (u * b ^ i) size) 0)
    → Same (twice size b u ys) (size * get_or ys k 0)
twice-one size b u [] k inside one none = absurd (omega arith)
twice-one size b u (y ∷ ys) zero inside one none =
    let first : Same (power_sum u size) size =
    ap (λ (x : ℕ). power_sum x size % modulus) (sym (start_power u b)) ∙ one in
    let rest : Same (twice size b (u * b) ys) 0 =
    twice-none size b (u * b) ys
    (λ (i : ℕ) (h : i < length ys).
    ap (λ (x : ℕ). power_sum x size % modulus) (power_shifted u b i)
    ∙ none (suc i) (omega arith) (λ (e : suc i ≡ 0). absurd (omega arith))) in
    let turned : y * size + 0 ≡ size * y = omega arith in
    ap (λ (x : ℕ). x % modulus) (twice-cons size b u y ys)
    ∙ sum_parts y (power_sum u size) size (twice size b (u * b) ys) 0 first rest
    ∙ ap (λ (x : ℕ). x % modulus) turned
twice-one size b u (y ∷ ys) (suc k) inside one none =
    let first : Same (power_sum u size) 0 =
    ap (λ (x : ℕ). power_sum x size % modulus) (sym (start_power u b))
    ∙ none 0 (omega arith) (λ (e : 0 ≡ suc k). absurd (omega arith)) in
    let rest : Same (twice size b (u * b) ys) (size * get_or ys k 0) =
    twice-one size b (u * b) ys k (omega arith)
    (ap (λ (x : ℕ). power_sum x size % modulus) (power_shifted u b k) ∙ one)
    (λ (i : ℕ) (h : i < length ys) (other : i ≡ k → ⊥).
    ap (λ (x : ℕ). power_sum x size % modulus) (power_shifted u b i)
    ∙ none (suc i) (omega arith) (λ (e : suc i ≡ suc k). let same : i ≡ k = omega arith in other same)) in
    let nothing : y * 0 + size * get_or ys k 0 ≡ size * get_or ys k 0 = omega arith in
    ap (λ (x : ℕ). x % modulus) (twice-cons size b u y ys)
    ∙ sum_parts y (power_sum u size) 0 (twice size b (u * b) ys) (size * get_or ys k 0) first rest
    ∙ ap (λ (x : ℕ). x % modulus) nothing

-- ---- sums of the powers of a word

power_sum-one : (u n : ℕ) → Same u 1 → Same (power_sum u n) n
power_sum-one u n one =
    sum_to-congruent (λ (j : ℕ). u ^ j) (λ (j : ℕ). 1 ^ j % modulus) n
    (λ (j : ℕ) (h : j < n). same_pow u 1 j one ∙ sym (same_mod (1 ^ j)))
    ∙ ap (λ (x : ℕ). x % modulus) (sum-of_ones n)

power_sum-none : (u n : ℕ) → (u % modulus ≡ 1 → ⊥) → u ^ n % modulus ≡ 1 → Same (power_sum u n) 0
power_sum-none u n other full =
    sum_to-congruent (λ (j : ℕ). u ^ j) (λ (j : ℕ). (u % modulus) ^ j % modulus) n
    (λ (j : ℕ) (h : j < n).
    sym (same_pow (u % modulus) u j (same_mod u)) ∙ sym (same_mod ((u % modulus) ^ j)))
    ∙ sum-of_root (u % modulus) n (mod_word u) other (same_pow (u % modulus) u n (same_mod u) ∙ full)

-- ---- a root and its inverse

-- a power of a word whose power n is 1
power_full : (x n k : ℕ) → x ^ n % modulus ≡ 1 → (x ^ k) ^ n % modulus ≡ 1
power_full x n k full =
    ap (λ (e : ℕ). e % modulus) (pow-pow x k n ∙ ap (λ (e : ℕ). x ^ e) (mul_comm k n)) ∙ more_ones x n k full

-- the inverse of a root is its power with one less than the order
pub inverse-times : (a n : ℕ) → 0 < n → a ^ n % modulus ≡ 1 → Same (a ^ (n - 1) % modulus * a) 1
inverse-times a n some full =
    let whole : suc (n - 1) ≡ n = omega arith in
    same_mul (a ^ (n - 1) % modulus) (a ^ (n - 1)) a a (same_mod (a ^ (n - 1))) refl
    ∙ ap (λ (x : ℕ). x % modulus) (sym (pow-suc a (n - 1)) ∙ ap (λ (e : ℕ). a ^ e) whole) ∙ full

-- powers of inverses are inverses
pub inverse-powers : (a b i : ℕ) → Same (b * a) 1 → Same (b ^ i * a ^ i) 1
inverse-powers a b i one =
    ap (λ (x : ℕ). x % modulus) (sym (mul-pow b a i)) ∙ same_pow (b * a) 1 i one
    ∙ ap (λ (x : ℕ). x % modulus) (one-pow i)

product_full : (x y n : ℕ) → x ^ n % modulus ≡ 1 → y ^ n % modulus ≡ 1 → (x * y) ^ n % modulus ≡ 1
product_full x y n e f =
    ap (λ (k : ℕ). k % modulus) (mul-pow x y n) ∙ same_mul (x ^ n) 1 (y ^ n) 1 e f

regrouped : (a b c : ℕ) → a * b * c ≡ a * (b * c)
regrouped a b c = omega arith

-- a power of the root times a power of the inverse is 1 only where the exponents are one
apart : (a b n i k : ℕ) → HasOrder a n → Same (b * a) 1 → i < n → k < n → (i ≡ k → ⊥)
    → (a ^ k * b ^ i) % modulus ≡ 1 → ⊥
apart a b n i k order inverse i_below k_below other one =
    let right : a ^ k * 1 ≡ a ^ k = omega arith in
    let left : 1 * a ^ i ≡ a ^ i = omega arith in
    let same : Same (a ^ k) (a ^ i) =
    ap (λ (x : ℕ). x % modulus) (sym right)
    ∙ sym (same_mul (a ^ k) (a ^ k) (b ^ i * a ^ i) 1 refl (inverse-powers a b i inverse))
    ∙ ap (λ (x : ℕ). x % modulus) (sym (regrouped (a ^ k) (b ^ i) (a ^ i)))
    ∙ same_mul (a ^ k * b ^ i) 1 (a ^ i) (a ^ i) one refl ∙ ap (λ (x : ℕ). x % modulus) left in
    ⊎_elim (λ (l : i < k). powers_apart a n order i k l k_below (sym same))
    (λ (l : k ≤ i).
    ⊎_elim (λ (m : k < i). powers_apart a n order k i m i_below same)
    (λ (m : i ≤ k). let e : i ≡ k = omega arith in other e) (cases_lt k i)) (cases_lt i k)

-- ---- the coefficients through values

abbrev pub coefficient : ℕ → List ℕ → ℕ → ℕ
coefficient n ys j = word_product (inverse_size n) (value_at ys (word_power (inverse_root n) j))

pub coefficient_is : (n j : ℕ) (ys : List ℕ) → Same (coefficient n ys j) (inverse_size n * horner ys (inverse_root n ^ j))
coefficient_is n j ys =
    same_mod (inverse_size n * value_at ys (word_power (inverse_root n) j))
    ∙ same_mul (inverse_size n) (inverse_size n) (value_at ys (word_power (inverse_root n) j))
    (horner ys (inverse_root n ^ j)) refl
    (ap (λ (x : ℕ). x % modulus) (value_at-horner ys (word_power (inverse_root n) j))
    ∙ same_mod (horner ys (word_power (inverse_root n) j))
    ∙ horner_point ys (word_power (inverse_root n) j) (inverse_root n ^ j) (same_mod (inverse_root n ^ j)))

pub swapped_product : (s h u : ℕ) → s * h * u ≡ s * (u * h)
swapped_product s h u = omega arith

unit_times : (s n y : ℕ) → Same (s * n) 1 → Same (s * (n * y)) y
unit_times s n y one =
    let split : s * (n * y) ≡ s * n * y = omega arith in
    let left : 1 * y ≡ y = omega arith in
    ap (λ (x : ℕ). x % modulus) split ∙ same_mul (s * n) 1 y y one refl ∙ ap (λ (x : ℕ). x % modulus) left

-- the polynomial has the values
interpolated_value : (n k : ℕ) (ys : List ℕ) → length ys ≡ n → HasOrder (alpha n) n → Same (inverse_size n * n) 1
    → k < n → Same (horner (map (coefficient n ys) (range_with_len 0 n)) (alpha n ^ k)) (get_or ys k 0)
interpolated_value n k ys size order unit below =
    let inverse : Same (inverse_root n * alpha n) 1 = inverse-times (alpha n) n order.positive order.returns in
    let full : inverse_root n ^ n % modulus ≡ 1 =
    same_pow (inverse_root n) (alpha n ^ (n - 1)) n (same_mod (alpha n ^ (n - 1)))
    ∙ power_full (alpha n) n (n - 1) order.returns in
    let picked : Same (twice n (inverse_root n) (alpha n ^ k) ys) (n * get_or ys k 0) =
    twice-one n (inverse_root n) (alpha n ^ k) ys k (omega arith)
    (power_sum-one (alpha n ^ k * inverse_root n ^ k) n
    (ap (λ (x : ℕ). x % modulus) (mul_comm (alpha n ^ k) (inverse_root n ^ k))
    ∙ inverse-powers (alpha n) (inverse_root n) k inverse))
    (λ (i : ℕ) (h : i < length ys) (other : i ≡ k → ⊥).
    power_sum-none (alpha n ^ k * inverse_root n ^ i) n
    (apart (alpha n) (inverse_root n) n i k order inverse (omega arith) below other)
    (product_full (alpha n ^ k) (inverse_root n ^ i) n (power_full (alpha n) n k order.returns)
    (power_full (inverse_root n) n i full))) in
    ap (λ (x : ℕ). x % modulus) (horner-indexes (coefficient n ys) n (alpha n ^ k))
    ∙ sum_to-congruent (λ (j : ℕ). coefficient n ys j * (alpha n ^ k) ^ j)
    (λ (j : ℕ). inverse_size n * ((alpha n ^ k) ^ j * horner ys (inverse_root n ^ j))) n
    (λ (j : ℕ) (h : j < n).
    same_mul (coefficient n ys j) (inverse_size n * horner ys (inverse_root n ^ j)) ((alpha n ^ k) ^ j)
    ((alpha n ^ k) ^ j) (coefficient_is n j ys) refl
    ∙ ap (λ (x : ℕ). x % modulus)
    (swapped_product (inverse_size n) (horner ys (inverse_root n ^ j)) ((alpha n ^ k) ^ j)))
    ∙ ap (λ (x : ℕ). x % modulus)
    (sum_to-times (inverse_size n) (λ (j : ℕ). (alpha n ^ k) ^ j * horner ys (inverse_root n ^ j)) n)
    ∙ same_mul (inverse_size n) (inverse_size n) (twice n (inverse_root n) (alpha n ^ k) ys) (n * get_or ys k 0) refl
    picked
    ∙ unit_times (inverse_size n) n (get_or ys k 0) unit

-- ---- the laws

unit_product : (r q n : ℕ) → r + q ≡ modulus → q * n ≡ modulus - 1 → 0 < n → (r * n) % modulus ≡ 1
unit_product r q n whole quotient some =
    let spread : (r + q) * n ≡ r * n + q * n = omega arith in
    let product : (r + q) * n ≡ modulus * n = ap (λ (x : ℕ). x * n) whole in
    let all : r * n + (modulus - 1) ≡ modulus * n = sym (spread ∙ ap (λ (x : ℕ). r * n + x) quotient) ∙ product in
    omega arith

le_times : (q n : ℕ) → 0 < n → q ≤ q * n
le_times q zero some = absurd (omega arith)
le_times q (suc n) some = let opened : q * suc n ≡ q * n + q = omega arith in omega arith

-- the size times its inverse
pub inverse_size-times : (log : ℕ) → log ≤ 32 → Same (inverse_size (2 ^ log) * 2 ^ log) 1
inverse_size-times log small =
    let whole : 32 - log + log ≡ 32 = omega arith in
    let powers : 2 ^ (32 - log) * 2 ^ log ≡ 4294967296 =
    sym (pow-add 2 (32 - log) log) ∙ ap (λ (x : ℕ). 2 ^ x) whole in
    let grouped : 4294967295 * 2 ^ (32 - log) * 2 ^ log ≡ 4294967295 * (2 ^ (32 - log) * 2 ^ log) = omega arith in
    let all : 4294967295 * 2 ^ (32 - log) * 2 ^ log ≡ modulus - 1 =
    grouped ∙ ap (λ (x : ℕ). 4294967295 * x) powers in
    let some : 0 < 2 ^ log = pow_pos log in
    let quotient : (modulus - 1) / 2 ^ log ≡ 4294967295 * 2 ^ (32 - log) =
    ap (λ (x : ℕ). x / 2 ^ log) (sym all) ∙ mul-div_cancel (4294967295 * 2 ^ (32 - log)) some in
    let product : (modulus - 1) / 2 ^ log * 2 ^ log ≡ modulus - 1 = ap (λ (x : ℕ). x * 2 ^ log) quotient ∙ all in
    let less : (modulus - 1) / 2 ^ log ≤ (modulus - 1) / 2 ^ log * 2 ^ log = le_times ((modulus - 1) / 2 ^ log) (2 ^ log) some in
    unit_product (inverse_size (2 ^ log)) ((modulus - 1) / 2 ^ log) (2 ^ log) (omega arith) product some

pub length-interpolated : (values : List ℕ) → length (interpolated values) ≡ length values
unfolding interpolated
length-interpolated values = length-map-range_with_len (coefficient (length values) values) 0 (length values)

pub words-interpolated : (values : List ℕ) → AreWords (interpolated values)
unfolding interpolated
words-interpolated values k d inside =
    let count : length (map (coefficient (length values) values) (range_with_len 0 (length values))) ≡ length values =
    length-map-range_with_len (coefficient (length values) values) 0 (length values) in
    let P : ℕ → Type 0 = λ (x : ℕ). x < modulus in
    subst P
    (sym (get_or-map-range_with_len (coefficient (length values) values) 0 (length values) k k d (omega arith) (omega arith)))
    (mod_word (inverse_size (length values) * value_at values (word_power (inverse_root (length values)) k)))

pub get_or-interpolated : (values : List ℕ) (k : ℕ) → k < length values
    → get_or (interpolated values) k 0 ≡ coefficient (length values) values k
unfolding interpolated
get_or-interpolated values k inside =
    get_or-map-range_with_len (coefficient (length values) values) 0 (length values) k k 0 inside (omega arith)

value_interpolated : (values : List ℕ) (k : ℕ) → HasOrder (alpha (length values)) (length values)
    → Same (inverse_size (length values) * length values) 1 → k < length values
    → Same (horner (interpolated values) (alpha (length values) ^ k)) (get_or values k 0)
unfolding interpolated
value_interpolated values k order unit below = interpolated_value (length values) k values refl order unit below

pub interpolation_exists : (log : ℕ) (values : List ℕ) → log ≤ 32 → AreWords values → length values ≡ 2 ^ log
    → Interpolates (interpolated values) values
interpolation_exists log values small words size =
    let O : ℕ → Type 0 = λ (n : ℕ). HasOrder (alpha n) n in
    let U : ℕ → Type 0 = λ (n : ℕ). Same (inverse_size n * n) 1 in
    let order : HasOrder (alpha (length values)) (length values) = subst O (sym size) (alpha-order log small) in
    let unit : Same (inverse_size (length values) * length values) 1 = subst U (sym size) (inverse_size-times log small) in
    let count : length (values_on (length values) (interpolated values)) ≡ length values =
    length-values_on (length values) (interpolated values) in
    record {
      words = words-interpolated values;
      size = length-interpolated values;
      agrees =
          ext_get_or 0 (values_on (length values) (interpolated values)) values count
          (λ (k : ℕ) (inside : k < length (values_on (length values) (interpolated values))).
          get_or-values_on (length values) (interpolated values) k (omega arith)
          ∙ value_at-horner (interpolated values) (alpha (length values) ^ k % modulus)
          ∙ horner_point (interpolated values) (alpha (length values) ^ k % modulus) (alpha (length values) ^ k)
          (same_mod (alpha (length values) ^ k))
          ∙ value_interpolated values k order unit (omega arith)
          ∙ word_mod (get_or values k 0) (words k 0 (omega arith)));
    }

pub interpolation_unique : (log : ℕ) (p q values : List ℕ) → log ≤ 32 → length values ≡ 2 ^ log
    → Interpolates p values → Interpolates q values → p ≡ q
interpolation_unique log p q values small size at_p at_q =
    values_determine log p q small at_p.words at_q.words (at_p.size ∙ size) (at_q.size ∙ size)
    (ap (λ (n : ℕ). values_on n p) (sym size) ∙ at_p.agrees ∙ sym at_q.agrees
    ∙ ap (λ (n : ℕ). values_on n q) size)

pub domain_has_inverses : (log : ℕ) → log ≤ 32
    → (word_product (inverse_root (2 ^ log)) (alpha (2 ^ log)) ≡ 1) × (word_product (inverse_size (2 ^ log)) (2 ^ log) ≡ 1)
domain_has_inverses log small = (
  inverse-times (alpha (2 ^ log)) (2 ^ log) (alpha-order log small).positive (alpha-order log small).returns,
  inverse_size-times log small,
)
