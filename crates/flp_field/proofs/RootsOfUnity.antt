-- Roots of unity: the root of size 2^log has order 2^log, its domain is all roots of that size, and powers of a root
-- differ pairwise and sum to 0. The exponents of 7 are opaque, since a power of two literals would be computed.
use Rattle.std.proofs.Common.{ℕ, suc, zero, ◌≡◌, ◌≢◌, ◌+◌, ◌-◌, ◌*◌, ◌/◌, ◌%◌, ◌^◌, ◌<◌, ◌≤◌, List, [], ◌∷◌, ◌++◌, length, get_or, lit<, arith, ap, ap₂, sym, subst, ◌∙◌, refl, ⊎_elim, add-one}
use Rattle.std.specs.List.{sum, Contains, AllPairs}
use Rattle.std.proofs.Math.Nat.{div-add-mod, mul-div_cancel, mul-lt-mul_of_pos_left, mul-le-mul_left, eq_of_mul-eq-mul_right, mul_comm, pow-suc, pow-zero}
use Rattle.std.proofs.lemmas.Nat.{pow-add, pow_pos}
use Rattle.std.proofs.lemmas.Bool.{cases_eq, cases_lt}
use Rattle.std.proofs.lemmas.List.Sums.{sum_by-append}
use Rattle.std.proofs.lemmas.List.FromFn.{length-map-range_with_len, get_or-map-range_with_len, map-range_with_len_more}
use Rattle.flp_field.specs.Word.{modulus, word_power}
use Rattle.flp_field.specs.Order.{HasOrder}
use Rattle.flp_field.specs.Domain.{alpha, powers_of, domain}
use Rattle.flp_field.proofs.Congruence.{Same, same_add, same_mul, same_pow, same_mod, same_cancel, mod_word}
use Rattle.flp_field.proofs.Powers.{pow-pow, one-pow}
use Rattle.flp_field.proofs.Order.{group_size, group_size_is, seven_full, seven_order, less_ones, more_ones, same_powers, powers_reach, power_by, seven_to}
use Rattle.flp_field.proofs.ProductLemmas.{cancelled}

-- ---- the root as a power of 7

-- the odd part of p - 1
pub odd_part : ℕ
odd_part = 4294967295

pub odd_part_is : odd_part ≡ 4294967295
unfolding odd_part
odd_part_is = refl

-- the exponent of 7 in the root of size 2^log
pub root_exponent : ℕ → ℕ
root_exponent log = odd_part * 2 ^ (32 - log)

pub root_exponent_is : (log : ℕ) → root_exponent log ≡ odd_part * 2 ^ (32 - log)
unfolding root_exponent
root_exponent_is log = refl

powers_of_two : (log : ℕ) → log ≤ 32 → 2 ^ (32 - log) * 2 ^ log ≡ 4294967296
powers_of_two log below =
    let whole : 32 - log + log ≡ 32 = omega arith in
    sym (pow-add 2 (32 - log) log) ∙ ap (λ (x : ℕ). 2 ^ x) whole

-- the exponent times the size is p - 1
pub root_exponent-size : (log : ℕ) → log ≤ 32 → root_exponent log * 2 ^ log ≡ group_size
unfolding root_exponent
root_exponent-size log below =
    let odd : odd_part ≡ 4294967295 = odd_part_is in
    let size : group_size ≡ 18446744069414584320 = group_size_is in
    let grouped : odd_part * 2 ^ (32 - log) * 2 ^ log ≡ odd_part * (2 ^ (32 - log) * 2 ^ log) = omega arith in
    grouped ∙ ap (λ (x : ℕ). odd_part * x) (powers_of_two log below) ∙ (omega arith)

pub alpha-is : (log : ℕ) → log ≤ 32 → alpha (2 ^ log) ≡ 7 ^ root_exponent log % modulus
unfolding alpha root_exponent
alpha-is log below =
    let quotient : 4294967296 / 2 ^ log ≡ 2 ^ (32 - log) =
    ap (λ (x : ℕ). x / 2 ^ log) (sym (powers_of_two log below)) ∙ mul-div_cancel (2 ^ (32 - log)) (pow_pos log) in
    ap (λ (x : ℕ). 7 ^ x % modulus)
    (ap (λ (x : ℕ). 4294967295 * x) quotient ∙ ap (λ (x : ℕ). x * 2 ^ (32 - log)) (sym odd_part_is))

pub alpha-word : (log : ℕ) → log ≤ 32 → alpha (2 ^ log) < modulus
alpha-word log below =
    let P : ℕ → Type 0 = λ (x : ℕ). x < modulus in
    subst P (sym (alpha-is log below)) (mod_word (7 ^ root_exponent log))

-- a power of the root is a power of 7
pub alpha-power : (log k : ℕ) → log ≤ 32 → Same (alpha (2 ^ log) ^ k) (7 ^ (root_exponent log * k))
alpha-power log k below =
    same_pow (alpha (2 ^ log)) (7 ^ root_exponent log) k
    (ap (λ (x : ℕ). x % modulus) (alpha-is log below) ∙ same_mod (7 ^ root_exponent log))
    ∙ ap (λ (x : ℕ). x % modulus) (pow-pow 7 (root_exponent log) k)

-- ---- the order of the root

pub alpha-full : (log : ℕ) → log ≤ 32 → alpha (2 ^ log) ^ (2 ^ log) % modulus ≡ 1
alpha-full log below =
    alpha-power log (2 ^ log) below ∙ ap (λ (x : ℕ). 7 ^ x % modulus) (root_exponent-size log below) ∙ seven_full

root_exponent-pos : (log : ℕ) → log ≤ 32 → 0 < root_exponent log
root_exponent-pos log below =
    ⊎_elim
    (λ (none : root_exponent log ≡ 0).
    let size : group_size ≡ 18446744069414584320 = group_size_is in
    let product : root_exponent log * 2 ^ log ≡ group_size = root_exponent-size log below in
    let nothing : root_exponent log * 2 ^ log ≡ 0 = ap (λ (x : ℕ). x * 2 ^ log) none ∙ (omega arith) in
    absurd (omega arith))
    (λ (some : root_exponent log ≡ 0 → ⊥).
    ⊎_elim (λ (l : 0 < root_exponent log). l)
    (λ (l : root_exponent log ≤ 0).
    let none : root_exponent log ≡ 0 = omega arith in absurd (some none)) (cases_lt 0 (root_exponent log)))
    (cases_eq (root_exponent log) 0)

pub alpha-order : (log : ℕ) → log ≤ 32 → HasOrder (alpha (2 ^ log)) (2 ^ log)
alpha-order log small =
    record {
      positive = pow_pos log;
      returns = alpha-full log small;
      first = λ (k : ℕ) (some : 0 < k) (below : k < 2 ^ log) (one : alpha (2 ^ log) ^ k % modulus ≡ 1).
          let positive : 0 < root_exponent log = root_exponent-pos log small in
          let size : root_exponent log * 2 ^ log ≡ group_size = root_exponent-size log small in
          let under : root_exponent log * k < root_exponent log * 2 ^ log =
          mul-lt-mul_of_pos_left below positive in
          let over : root_exponent log * 0 < root_exponent log * k = mul-lt-mul_of_pos_left some positive in
          let nothing : root_exponent log * 0 ≡ 0 = omega arith in
          seven_order (root_exponent log * k) (omega arith) (omega arith) (sym (alpha-power log k small) ∙ one);
    }

doubled : (a : ℕ) → a + a ≡ a * 2
doubled a = omega arith

turned_square : (h : ℕ) → Same (h * h) 1 → Same (h * (h + 1)) (1 * (h + 1))
turned_square h square =
    let left : h * (h + 1) ≡ h * h + h = omega arith in
    let right : 1 + h ≡ 1 * (h + 1) = omega arith in
    ap (λ (x : ℕ). x % modulus) left ∙ same_add (h * h) 1 h h square refl ∙ ap (λ (x : ℕ). x % modulus) right

-- a word whose square is 1 and that is not 1 is -1
pub minus_one : (h : ℕ) → h < modulus → Same (h * h) 1 → (h ≡ 1 → ⊥) → h ≡ modulus - 1
minus_one h word square other =
    let turned : Same (h * (h + 1)) (1 * (h + 1)) = turned_square h square in
    let none : (h + 1) % modulus ≡ 0 = cancelled h 1 (h + 1) word (lit< tt) other turned in
    omega arith

-- half a turn of the root of size 2^(log + 1) is -1
pub alpha-half : (log : ℕ) → log < 32 → alpha (2 ^ suc log) ^ (2 ^ log) % modulus ≡ modulus - 1
alpha-half log below =
    let order : HasOrder (alpha (2 ^ suc log)) (2 ^ suc log) = alpha-order (suc log) (omega arith) in
    let double : 2 ^ suc log ≡ 2 ^ log * 2 = pow-suc 2 log in
    let half_pos : 0 < 2 ^ log = pow_pos log in
    let h_word : alpha (2 ^ suc log) ^ (2 ^ log) % modulus < modulus = mod_word (alpha (2 ^ suc log) ^ (2 ^ log)) in
    let square : Same ((alpha (2 ^ suc log) ^ (2 ^ log) % modulus) * (alpha (2 ^ suc log) ^ (2 ^ log) % modulus)) 1 =
    same_mul _ _ _ _ (same_mod (alpha (2 ^ suc log) ^ (2 ^ log))) (same_mod (alpha (2 ^ suc log) ^ (2 ^ log)))
    ∙ ap (λ (x : ℕ). x % modulus)
    (sym (pow-add (alpha (2 ^ suc log)) (2 ^ log) (2 ^ log))
    ∙ ap (λ (x : ℕ). alpha (2 ^ suc log) ^ x) (doubled (2 ^ log) ∙ sym double))
    ∙ order.returns in
    minus_one (alpha (2 ^ suc log) ^ (2 ^ log) % modulus) h_word square
    (λ (one : alpha (2 ^ suc log) ^ (2 ^ log) % modulus ≡ 1). order.first (2 ^ log) half_pos (omega arith) one)

-- ---- powers of a word with an order

-- different exponents below the order give different powers
pub powers_apart : (x n : ℕ) → HasOrder x n → (i j : ℕ) → i < j → j < n → Same (x ^ i) (x ^ j) → ⊥
powers_apart x n order i j before below e =
    let joined : i + (n - i) ≡ n = omega arith in
    let undone : Same (x ^ i * x ^ (n - i)) 1 =
    ap (λ (k : ℕ). k % modulus) (sym (pow-add x i (n - i)) ∙ ap (λ (k : ℕ). x ^ k) joined) ∙ order.returns in
    order.first (j - i) (omega arith) (omega arith)
    (same_powers x (x ^ (n - i)) i j undone (omega arith) e)

pub length-powers_of : (x n : ℕ) → length (powers_of x n) ≡ n
length-powers_of x n = length-map-range_with_len (λ (k : ℕ). word_power x k) 0 n

pub get_or-powers_of : (x n i d : ℕ) → i < n → get_or (powers_of x n) i d ≡ x ^ i % modulus
get_or-powers_of x n i d below = get_or-map-range_with_len (λ (k : ℕ). word_power x k) 0 n i i d below (omega arith)

pub powers_differ : (x n : ℕ) → HasOrder x n → AllPairs (λ (s t : ℕ). s ≢ t) (powers_of x n)
powers_differ x n order i j d before below e =
    let size : length (powers_of x n) ≡ n = length-powers_of x n in
    powers_apart x n order i j before (omega arith)
    (sym (get_or-powers_of x n i d (omega arith)) ∙ e ∙ get_or-powers_of x n j d (omega arith))

-- ---- sums of powers

pub sum-append : (xs ys : List ℕ) → sum (xs ++ ys) ≡ sum xs + sum ys
sum-append xs ys = sum_by-append (λ (x : ℕ). x) xs ys

-- one power more
pub sum-powers_of : (x n : ℕ) → sum (powers_of x (suc n)) ≡ sum (powers_of x n) + x ^ n % modulus
sum-powers_of x n =
    let single : sum (x ^ n % modulus ∷ []) ≡ x ^ n % modulus = omega arith in
    ap (λ (k : ℕ). sum (powers_of x k)) (sym (add-one n))
    ∙ ap sum (map-range_with_len_more (λ (k : ℕ). word_power x k) 0 n n (omega arith))
    ∙ sum-append (powers_of x n) (x ^ n % modulus ∷ []) ∙ ap (λ (k : ℕ). sum (powers_of x n) + k) single

start : (x : ℕ) → x * sum (powers_of x 0) + 1 ≡ sum (powers_of x 0) + x ^ 0
start x = let power : x ^ 0 ≡ 1 = pow-zero x in omega arith

one_times : (b : ℕ) → 1 * b ≡ b
one_times b = omega arith

-- the geometric sum, with no difference and no quotient
pub geometric : (x n : ℕ) → Same (x * sum (powers_of x n) + 1) (sum (powers_of x n) + x ^ n)
geometric x zero = ap (λ (k : ℕ). k % modulus) (start x)
geometric x (suc n) =
    let more : sum (powers_of x (suc n)) ≡ sum (powers_of x n) + x ^ n % modulus = sum-powers_of x n in
    let before : Same (x * sum (powers_of x n) + 1) (sum (powers_of x n) + x ^ n) = geometric x n in
    let power : x ^ suc n ≡ x ^ n * x = pow-suc x n in
    let spread : x * (sum (powers_of x n) + x ^ n % modulus) + 1
    ≡ x * sum (powers_of x n) + 1 + x ^ n % modulus * x = omega arith in
    ap (λ (k : ℕ). (x * k + 1) % modulus) more ∙ ap (λ (k : ℕ). k % modulus) spread
    ∙ same_add _ (sum (powers_of x n) + x ^ n) _ (x ^ n * x) before
    (same_mul _ (x ^ n) x x (same_mod (x ^ n)) refl)
    ∙ same_add _ (sum (powers_of x n) + x ^ n % modulus) (x ^ n * x) (x ^ n * x)
    (same_add (sum (powers_of x n)) (sum (powers_of x n)) _ _ refl (sym (same_mod (x ^ n)))) refl
    ∙ sym (ap₂ (λ (k l : ℕ). (k + l) % modulus) more power)

pub sum-of_root : (x n : ℕ) → x < modulus → (x ≡ 1 → ⊥) → x ^ n % modulus ≡ 1 → sum (powers_of x n) % modulus ≡ 0
sum-of_root x n word other one =
    let turned : Same (x * sum (powers_of x n) + 1) (sum (powers_of x n) + 1) =
    geometric x n ∙ same_add (sum (powers_of x n)) (sum (powers_of x n)) (x ^ n) 1 refl (one ∙ refl) in
    let same : Same (x * sum (powers_of x n)) (1 * sum (powers_of x n)) =
    same_cancel (x * sum (powers_of x n)) (sum (powers_of x n)) 1 turned
    ∙ ap (λ (k : ℕ). k % modulus) (sym (one_times (sum (powers_of x n)))) in
    cancelled x 1 (sum (powers_of x n)) word (lit< tt) other same

pub sum-of_ones : (n : ℕ) → sum (powers_of 1 n) ≡ n
sum-of_ones zero = refl
sum-of_ones (suc n) =
    let more : sum (powers_of 1 (suc n)) ≡ sum (powers_of 1 n) + 1 ^ n % modulus = sum-powers_of 1 n in
    let before : sum (powers_of 1 n) ≡ n = sum-of_ones n in
    let one : 1 ^ n % modulus ≡ 1 = ap (λ (k : ℕ). k % modulus) (one-pow n) in
    more ∙ ap₂ (λ (k l : ℕ). k + l) before one ∙ add-one n

-- ---- the domain

remainder_below : (n k : ℕ) → 0 < k → n % k < k
remainder_below n k some = omega arith

-- a word with a power that is 1 is not 0
root_some : (log t : ℕ) → t ^ (2 ^ log) % modulus ≡ 1 → 0 < t
root_some log zero one =
    let some : 0 < 2 ^ log = pow_pos log in
    let whole : suc (2 ^ log - 1) ≡ 2 ^ log = omega arith in
    let power : 0 ^ suc (2 ^ log - 1) ≡ 0 ^ (2 ^ log - 1) * 0 = pow-suc 0 (2 ^ log - 1) in
    let nothing : 0 ^ (2 ^ log) ≡ 0 = ap (λ (x : ℕ). 0 ^ x) (sym whole) ∙ power ∙ (omega arith) in
    let bad : ◌≡◌ {A = ℕ} 0 1 = ap (λ (x : ℕ). x % modulus) (sym nothing) ∙ one in
    absurd (omega arith)
root_some log (suc t) one = omega arith

-- an exponent of 7 that gives 1 is a multiple of p - 1
pub ones_divide : (n : ℕ) → 7 ^ n % modulus ≡ 1 → n ≡ group_size * (n / group_size)
ones_divide n one =
    let size : group_size ≡ 18446744069414584320 = group_size_is in
    let split : group_size * (n / group_size) + n % group_size ≡ n = div-add-mod n group_size in
    let rest : n - group_size * (n / group_size) ≡ n % group_size = omega arith in
    let gone : 7 ^ (n % group_size) % modulus ≡ 1 =
    ap (λ (k : ℕ). 7 ^ k % modulus) (sym rest)
    ∙ less_ones 7 n (group_size * (n / group_size)) (omega arith) one
    (more_ones 7 group_size (n / group_size) seven_full) in
    ⊎_elim (λ (none : n % group_size ≡ 0). omega arith)
    (λ (some : n % group_size ≡ 0 → ⊥).
    ⊎_elim
    (λ (l : 0 < n % group_size).
    absurd (seven_order (n % group_size) l (remainder_below n group_size (omega arith)) gone))
    (λ (l : n % group_size ≤ 0).
    let none : n % group_size ≡ 0 = omega arith in absurd (some none)) (cases_lt 0 (n % group_size)))
    (cases_eq (n % group_size) 0)

-- a root of unity of size 2^log is a power of the root
pub root_reached : (log t : ℕ) → log ≤ 32 → t < modulus → t ^ (2 ^ log) % modulus ≡ 1
    → (k : ℕ) × (k < 2 ^ log) × (alpha (2 ^ log) ^ k % modulus ≡ t)
root_reached log t small word one =
    let positive : 0 < root_exponent log = root_exponent-pos log small in
    let size : root_exponent log * 2 ^ log ≡ group_size = root_exponent-size log small in
    let some : 0 < t = root_some log t one in
    let r : (k : ℕ) × (k < group_size) × (7 ^ k % modulus ≡ t) = powers_reach t some word in
    let same_t : Same t (7 ^ r.0) = ap (λ (n : ℕ). n % modulus) (sym r.2) ∙ same_mod (7 ^ r.0) in
    let full : 7 ^ (r.0 * 2 ^ log) % modulus ≡ 1 =
    ap (λ (n : ℕ). n % modulus) (sym (pow-pow 7 r.0 (2 ^ log))) ∙ sym (same_pow t (7 ^ r.0) (2 ^ log) same_t) ∙ one in
    let multiple : r.0 * 2 ^ log ≡ group_size * (r.0 * 2 ^ log / group_size) = ones_divide (r.0 * 2 ^ log) full in
    let reach : (j : ℕ) → r.0 * 2 ^ log ≡ group_size * j → (k : ℕ) × (k < 2 ^ log) × (alpha (2 ^ log) ^ k % modulus ≡ t) =
    λ (j : ℕ) (e : r.0 * 2 ^ log ≡ group_size * j).
    let regrouped : root_exponent log * 2 ^ log * j ≡ root_exponent log * j * 2 ^ log = omega arith in
    let exponent : r.0 ≡ root_exponent log * j =
    eq_of_mul-eq-mul_right (2 ^ log) (pow_pos log) r.0 (root_exponent log * j)
    (e ∙ ap (λ (n : ℕ). n * j) (sym size) ∙ regrouped) in
    let below : j < 2 ^ log =
    ⊎_elim (λ (l : j < 2 ^ log). l)
    (λ (l : 2 ^ log ≤ j).
    let over : root_exponent log * 2 ^ log ≤ root_exponent log * j = mul-le-mul_left (root_exponent log) l in
    absurd (omega arith)) (cases_lt j (2 ^ log)) in
    (j, below, alpha-power log j small ∙ ap (λ (n : ℕ). 7 ^ n % modulus) (sym exponent) ∙ r.2) in
    reach (r.0 * 2 ^ log / group_size) multiple

pub domain_is_roots_from : (log t : ℕ) → log ≤ 32 → t < modulus → Contains (domain (2 ^ log)) t → t ^ (2 ^ log) % modulus ≡ 1
domain_is_roots_from log t small word inside =
    let size : length (domain (2 ^ log)) ≡ 2 ^ log = length-powers_of (alpha (2 ^ log)) (2 ^ log) in
    let here : t ≡ alpha (2 ^ log) ^ inside.0 % modulus =
    sym inside.2 ∙ get_or-powers_of (alpha (2 ^ log)) (2 ^ log) inside.0 t (omega arith) in
    same_pow t (alpha (2 ^ log) ^ inside.0) (2 ^ log)
    (ap (λ (n : ℕ). n % modulus) here ∙ same_mod (alpha (2 ^ log) ^ inside.0))
    ∙ ap (λ (n : ℕ). n % modulus)
    (pow-pow (alpha (2 ^ log)) inside.0 (2 ^ log)
    ∙ ap (λ (n : ℕ). alpha (2 ^ log) ^ n) (mul_comm inside.0 (2 ^ log)))
    ∙ more_ones (alpha (2 ^ log)) (2 ^ log) inside.0 (alpha-full log small)

pub domain_is_roots_to : (log t : ℕ) → log ≤ 32 → t < modulus → t ^ (2 ^ log) % modulus ≡ 1 → Contains (domain (2 ^ log)) t
domain_is_roots_to log t small word one =
    let r : (k : ℕ) × (k < 2 ^ log) × (alpha (2 ^ log) ^ k % modulus ≡ t) = root_reached log t small word one in
    let size : length (domain (2 ^ log)) ≡ 2 ^ log = length-powers_of (alpha (2 ^ log)) (2 ^ log) in
    (r.0, omega arith, get_or-powers_of (alpha (2 ^ log)) (2 ^ log) r.0 t r.1 ∙ r.2)

-- ---- the root as the program computes it

-- 7^4294967295
pub seven_to_odd_part : 7 ^ odd_part % modulus ≡ 1753635133440165772
unfolding power_by
seven_to_odd_part =
    let computed : power_by 64 7 4294967295 ≡ 1753635133440165772 = refl in
    sym (seven_to odd_part 4294967295 odd_part_is (lit< tt)) ∙ computed

pub generator-power : (log : ℕ) → log ≤ 32 → 1753635133440165772 ^ (2 ^ (32 - log)) % modulus ≡ alpha (2 ^ log)
generator-power log below =
    let generator : Same 1753635133440165772 (7 ^ odd_part) = sym (ap (λ (x : ℕ). x % modulus) seven_to_odd_part) ∙ same_mod (7 ^ odd_part) in
    same_pow 1753635133440165772 (7 ^ odd_part) (2 ^ (32 - log)) generator
    ∙ ap (λ (x : ℕ). x % modulus) (pow-pow 7 odd_part (2 ^ (32 - log)))
    ∙ ap (λ (x : ℕ). 7 ^ x % modulus) (sym (root_exponent_is log)) ∙ sym (alpha-is log below)
