-- 7 has order p - 1, by Pratt's argument over the factors of p - 1; so its powers are all words but 0, and each of
-- these has an inverse. The exponent p - 1 is opaque, since a power of two literals would be computed.
use Rattle.std.proofs.Common.{ℕ, suc, zero, ◌≡◌, ◌+◌, ◌-◌, ◌*◌, ◌/◌, ◌%◌, ◌^◌, ◌<◌, ◌≤◌, ◌⊎◌, true, false, cond, eqb, lit<, arith, ap, sym, subst, ◌∙◌, refl, inl, inr, ⊎_elim}
use Rattle.std.specs.Int.{IsGcd, ◌∣◌}
use Rattle.std.proofs.Math.Nat.{mul-div_cancel', dvd-mul_left, pow-zero, pow-suc, eq_of_mul-eq-mul_left, mul_comm}
use Rattle.std.proofs.lemmas.Nat.{pow-add}
use Rattle.std.proofs.lemmas.Nat.Gcd.{le_of_dvd}
use Rattle.std.proofs.lemmas.Bool.{cases_eq, cases_lt, cases_order, cases_Bool, cond-true, cond-false, eqb-true, eqb-false}
use Rattle.flp_field.specs.Word.{modulus}
use Rattle.flp_field.specs.Order.{HasOrder}
use Rattle.flp_field.proofs.Congruence.{Same, same_mul, same_pow, same_mod, mod_word, eq_from_same}
use Rattle.flp_field.proofs.Powers.{pow-pow, one-pow, power_odd, power_even}
use Rattle.flp_field.proofs.Pigeons.{all_reached, IsBelow, IsInjective}
use Rattle.flp_field.proofs.Divisors.{IsClosed, gcd_in, peel, peel_twos, prime_3, prime_5, prime_17, prime_257, prime_65537}

-- ---- powers that compute

-- a power modulo p in n halvings of the exponent
unfoldable pub power_by : ℕ → ℕ → ℕ → ℕ
power_by zero b e = 1
power_by (suc n) b e = (cond (eqb (e % 2) 1) b 1 * power_by n ((b * b) % modulus) (e / 2)) % modulus

one_times : (b : ℕ) → 1 * b ≡ b
one_times b = omega arith

halved : (n e : ℕ) → e < 2 ^ suc n → e / 2 < 2 ^ n
halved n e below = let split : 2 ^ suc n ≡ 2 ^ n * 2 = pow-suc 2 n in omega arith

even_rest : (e : ℕ) → (e % 2 ≡ 1 → ⊥) → e % 2 ≡ 0
even_rest e not_one =
    ⊎_elim (λ (l : e % 2 < 1). omega arith)
    (λ (l : 1 ≤ e % 2). let one : e % 2 ≡ 1 = omega arith in absurd (not_one one)) (cases_lt (e % 2) 1)

pub power_by_is : (n b e : ℕ) → e < 2 ^ n → power_by n b e ≡ b ^ e % modulus
unfolding power_by
power_by_is zero b e below =
    let nothing : e ≡ 0 = omega arith in sym (ap (λ (x : ℕ). b ^ x % modulus) nothing ∙ rw pow-zero refl)
power_by_is (suc n) b e below =
    let s : ℕ = (b * b) % modulus in
    let half : e / 2 < 2 ^ n = halved n e below in
    let rest : power_by n ((b * b) % modulus) (e / 2) ≡ ((b * b) % modulus) ^ (e / 2) % modulus =
    power_by_is n ((b * b) % modulus) (e / 2) half in
    let inner : Same (power_by n ((b * b) % modulus) (e / 2)) (((b * b) % modulus) ^ (e / 2)) =
    ap (λ (x : ℕ). x % modulus) rest ∙ same_mod (((b * b) % modulus) ^ (e / 2)) in
    ⊎_elim
    (λ (odd : eqb (e % 2) 1 ≡ true).
    let first : cond (eqb (e % 2) 1) b 1 ≡ b = cond-true (eqb (e % 2) 1) b 1 odd in
    let factor : Same b ((1 * b) % modulus) =
    sym (same_mod (1 * b) ∙ ap (λ (x : ℕ). x % modulus) (one_times b)) in
    rw first
    (same_mul b ((1 * b) % modulus) _ _ factor inner ∙ power_odd 1 b e (eqb-true (e % 2) 1 odd)
    ∙ ap (λ (x : ℕ). x % modulus) (one_times (b ^ e))))
    (λ (even : eqb (e % 2) 1 ≡ false).
    let first : cond (eqb (e % 2) 1) b 1 ≡ 1 = cond-false (eqb (e % 2) 1) b 1 even in
    let not_one : e % 2 ≡ 1 → ⊥ = eqb-false (e % 2) 1 even in
    rw first
    (same_mul 1 1 _ _ refl inner ∙ power_even 1 b e (even_rest e not_one)
    ∙ ap (λ (x : ℕ). x % modulus) (one_times (b ^ e)))) (cases_Bool (eqb (e % 2) 1))

-- ---- the exponent p - 1

pub group_size : ℕ
group_size = 18446744069414584320

pub group_size_is : group_size ≡ 18446744069414584320
unfolding group_size
group_size_is = refl

pub seven_to : (e n : ℕ) → e ≡ n → n < 2 ^ 64 → power_by 64 7 n ≡ 7 ^ e % modulus
seven_to e n same below = power_by_is 64 7 n below ∙ ap (λ (x : ℕ). 7 ^ x % modulus) (sym same)

pub seven_full : 7 ^ group_size % modulus ≡ 1
unfolding power_by
seven_full =
    let computed : power_by 64 7 18446744069414584320 ≡ 1 = refl in
    sym (seven_to group_size 18446744069414584320 group_size_is (lit< tt)) ∙ computed

-- an exponent at which the power was computed, and is not 1
seven_part : (n e : ℕ) → e ≡ n → n < 2 ^ 64 → eqb (power_by 64 7 n) 1 ≡ false → 7 ^ e % modulus ≡ 1 → ⊥
seven_part n e same below computed one =
    eqb-false (power_by 64 7 n) 1 computed (seven_to e n same below ∙ one)

-- ---- exponents whose power is 1

times_one : (b : ℕ) → b * 1 ≡ b
times_one b = omega arith

apart : (a b : ℕ) → b ≤ a → a ≡ a - b + b
apart a b below = omega arith

turn : (a b c : ℕ) → a * (b * c) ≡ b * (a * c)
turn a b c = omega arith

cancel : (q a b : ℕ) → 0 < q → q * a ≡ q * b → a ≡ b
cancel q a b some e = eq_of_mul-eq-mul_left q some a b e

-- a difference of two exponents of 1 is one
pub less_ones : (x a b : ℕ) → b ≤ a → x ^ a % modulus ≡ 1 → x ^ b % modulus ≡ 1 → x ^ (a - b) % modulus ≡ 1
less_ones x a b below one_a one_b =
    let split : x ^ a ≡ x ^ (a - b) * x ^ b = ap (λ (k : ℕ). x ^ k) (apart a b below) ∙ pow-add x (a - b) b in
    let step : Same (x ^ (a - b) * x ^ b) (x ^ (a - b) * 1) =
    same_mul (x ^ (a - b)) (x ^ (a - b)) (x ^ b) 1 refl (one_b ∙ refl) in
    ap (λ (k : ℕ). k % modulus) (sym (times_one (x ^ (a - b)))) ∙ sym step ∙ ap (λ (k : ℕ). k % modulus) (sym split)
    ∙ one_a

-- a multiple of an exponent of 1 is one
pub more_ones : (x a k : ℕ) → x ^ a % modulus ≡ 1 → x ^ (a * k) % modulus ≡ 1
more_ones x a k one =
    ap (λ (n : ℕ). n % modulus) (sym (pow-pow x a k)) ∙ same_pow (x ^ a) 1 k (one ∙ refl)
    ∙ ap (λ (n : ℕ). n % modulus) (one-pow k)

-- no proper divisor of p - 1 is an exponent of 1 that misses the prime q
no_part : (q n d m : ℕ) → q * n ≡ 18446744069414584320 → 0 < q → n < 2 ^ 64 → eqb (power_by 64 7 n) 1 ≡ false
    → d * m ≡ group_size → 7 ^ d % modulus ≡ 1 → q ∣ m → ⊥
no_part q n d m part some below computed whole one divides =
    let c : ℕ = m / q in
    let product : q * (m / q) ≡ m = mul-div_cancel' q divides in
    let all : d * (q * (m / q)) ≡ q * n =
    ap (λ (x : ℕ). d * x) product ∙ whole ∙ group_size_is ∙ sym part in
    let turned : q * (d * (m / q)) ≡ q * n = turn q d (m / q) ∙ all in
    let same : d * (m / q) ≡ n = cancel q (d * (m / q)) n some turned in
    seven_part n (d * (m / q)) same below computed (more_ones 7 d (m / q) one)

-- what divides p - 1 and is missed by each prime of it is 1
no_prime : (m : ℕ) → m ∣ 18446744069414584320 → (2 ∣ m → ⊥) → (3 ∣ m → ⊥) → (5 ∣ m → ⊥) → (17 ∣ m → ⊥) → (257 ∣ m → ⊥)
    → (65537 ∣ m → ⊥) → m ≡ 1
no_prime m divides no_2 no_3 no_5 no_17 no_257 no_65537 =
    let without_65537 : m ∣ 281470681743360 =
    ⊎_elim (λ (h : 65537 ∣ m). absurd (no_65537 h)) (λ (h : m ∣ 281470681743360). h)
    (peel 65537 m 281470681743360 prime_65537 divides) in
    let without_257 : m ∣ 1095216660480 =
    ⊎_elim (λ (h : 257 ∣ m). absurd (no_257 h)) (λ (h : m ∣ 1095216660480). h)
    (peel 257 m 1095216660480 prime_257 without_65537) in
    let without_17 : m ∣ 64424509440 =
    ⊎_elim (λ (h : 17 ∣ m). absurd (no_17 h)) (λ (h : m ∣ 64424509440). h)
    (peel 17 m 64424509440 prime_17 without_257) in
    let without_5 : m ∣ 12884901888 =
    ⊎_elim (λ (h : 5 ∣ m). absurd (no_5 h)) (λ (h : m ∣ 12884901888). h)
    (peel 5 m 12884901888 prime_5 without_17) in
    let without_3 : m ∣ 2 ^ 32 =
    ⊎_elim (λ (h : 3 ∣ m). absurd (no_3 h)) (λ (h : m ∣ 2 ^ 32). h) (peel 3 m (2 ^ 32) prime_3 without_5) in
    ⊎_elim (λ (h : 2 ∣ m). absurd (no_2 h)) (λ (h : m ≡ 1). h) (peel_twos 32 m without_3)

-- no exponent of 1 divides p - 1 but p - 1 itself
no_divisor : (d m : ℕ) → d * m ≡ group_size → 7 ^ d % modulus ≡ 1 → m ≡ 1
unfolding power_by
no_divisor d m whole one =
    let P : ℕ → Type 0 = λ (x : ℕ). m ∣ x in
    let divides : m ∣ 18446744069414584320 = subst P (whole ∙ group_size_is) (dvd-mul_left m d) in
    no_prime m divides (no_part 2 9223372034707292160 d m refl (lit< tt) (lit< tt) refl whole one)
    (no_part 3 6148914689804861440 d m refl (lit< tt) (lit< tt) refl whole one)
    (no_part 5 3689348813882916864 d m refl (lit< tt) (lit< tt) refl whole one)
    (no_part 17 1085102592318504960 d m refl (lit< tt) (lit< tt) refl whole one)
    (no_part 257 71777214277877760 d m refl (lit< tt) (lit< tt) refl whole one)
    (no_part 65537 281470681743360 d m refl (lit< tt) (lit< tt) refl whole one)

-- no exponent between 0 and p - 1 gives 1
pub seven_order : (a : ℕ) → 0 < a → a < group_size → 7 ^ a % modulus ≡ 1 → ⊥
seven_order a some below one =
    let P : ℕ → Type 0 = λ (x : ℕ). 7 ^ x % modulus ≡ 1 in
    let closed : IsClosed P =
    λ (x y : ℕ) (l : y ≤ x) (in_x : 7 ^ x % modulus ≡ 1) (in_y : 7 ^ y % modulus ≡ 1). less_ones 7 x y l in_x in_y in
    let r : (g : ℕ) × IsGcd a group_size g × P g = gcd_in P closed a group_size one seven_full in
    let product : r.0 * (group_size / r.0) ≡ group_size = mul-div_cancel' r.0 r.1.1 in
    let single : group_size / r.0 ≡ 1 = no_divisor r.0 (group_size / r.0) product r.2 in
    let whole : r.0 ≡ group_size =
    sym (times_one r.0) ∙ ap (λ (x : ℕ). r.0 * x) (sym single) ∙ product in
    let small : r.0 ≤ a = le_of_dvd some r.1.0 in
    omega arith

-- ---- the powers of 7

-- the power with the exponent that is left to p - 1 undoes a power
pub seven_back : (k : ℕ) → k ≤ group_size → Same (7 ^ k * 7 ^ (group_size - k)) 1
seven_back k below =
    let whole : k + (group_size - k) ≡ group_size = omega arith in
    let joined : 7 ^ k * 7 ^ (group_size - k) ≡ 7 ^ group_size =
    sym (pow-add 7 k (group_size - k)) ∙ ap (λ (x : ℕ). 7 ^ x) whole in
    ap (λ (x : ℕ). x % modulus) joined ∙ seven_full

rejoined : (i j : ℕ) → i ≤ j → j ≡ i + (j - i)
rejoined i j below = omega arith

above_zero : (a : ℕ) → (a ≡ 0 → ⊥) → 0 < a
above_zero a some =
    ⊎_elim (λ (l : 0 < a). l) (λ (l : a ≤ 0). let none : a ≡ 0 = omega arith in absurd (some none)) (cases_lt 0 a)

-- a number times two numbers that undo one another
same_sym_of : (a c d : ℕ) → Same (c * d) 1 → Same a (c * a * d)
same_sym_of a c d undone =
    let ordered : c * a * d ≡ c * d * a = omega arith in
    sym
    (ap (λ (n : ℕ). n % modulus) ordered ∙ same_mul (c * d) 1 a a undone refl
    ∙ ap (λ (n : ℕ). n % modulus) (one_times a))

-- a factor that can be undone may be left out
pub same_cancel_mul : (a b c d : ℕ) → Same (c * d) 1 → Same (c * a) (c * b) → Same a b
same_cancel_mul a b c d undone e =
    same_sym_of a c d undone ∙ same_mul (c * a) (c * b) d d e refl ∙ sym (same_sym_of b c d undone)

-- no power of 7 is 0
pub seven_some : (k : ℕ) → k ≤ group_size → 0 < 7 ^ k % modulus
seven_some k below =
    ⊎_elim
    (λ (e : 7 ^ k % modulus ≡ 0).
    let gone : Same (7 ^ k * 7 ^ (group_size - k)) (0 * 7 ^ (group_size - k)) =
    same_mul (7 ^ k) 0 (7 ^ (group_size - k)) (7 ^ (group_size - k)) e refl in
    let nothing : 0 * 7 ^ (group_size - k) ≡ 0 = omega arith in
    let bad : Same 1 0 = sym (seven_back k below) ∙ gone ∙ ap (λ (x : ℕ). x % modulus) nothing in
    absurd (omega arith))
    (λ (ne : 7 ^ k % modulus ≡ 0 → ⊥).
    ⊎_elim (λ (l : 0 < 7 ^ k % modulus). l)
    (λ (l : 7 ^ k % modulus ≤ 0). let none : 7 ^ k % modulus ≡ 0 = omega arith in absurd (ne none))
    (cases_lt 0 (7 ^ k % modulus))) (cases_eq (7 ^ k % modulus) 0)

-- powers of any base that has an undoing are equal only where the difference of the exponents gives 1
pub same_powers : (x y i j : ℕ) → Same (x ^ i * y) 1 → i ≤ j → Same (x ^ i) (x ^ j) → x ^ (j - i) % modulus ≡ 1
same_powers x y i j undone below e =
    let split : x ^ j ≡ x ^ i * x ^ (j - i) =
    ap (λ (k : ℕ). x ^ k) (rejoined i j below) ∙ pow-add x i (j - i) in
    let step : Same (x ^ i * x ^ (j - i)) (x ^ i * 1) =
    ap (λ (k : ℕ). k % modulus) (sym split) ∙ sym e ∙ ap (λ (k : ℕ). k % modulus) (sym (times_one (x ^ i))) in
    same_cancel_mul (x ^ (j - i)) 1 (x ^ i) y undone step

seven_later : (i j : ℕ) → i < j → j < group_size → Same (7 ^ i) (7 ^ j) → ⊥
seven_later i j before below e =
    seven_order (j - i) (omega arith) (omega arith)
    (same_powers 7 (7 ^ (group_size - i)) i j (seven_back i (omega arith)) (omega arith) e)

-- different exponents below p - 1 give different powers
pub seven_apart : (i j : ℕ) → i < group_size → j < group_size → Same (7 ^ i) (7 ^ j) → i ≡ j
seven_apart i j i_below j_below e =
    ⊎_elim (λ (same : i ≡ j). same)
    (λ (other : (i < j) ⊎ (j < i)).
    ⊎_elim (λ (l : i < j). absurd (seven_later i j l j_below e))
    (λ (l : j < i). absurd (seven_later j i l i_below (sym e))) other) (cases_order i j)

-- each word but 0 is a power of 7
pub powers_reach : (x : ℕ) → 0 < x → x < modulus → (k : ℕ) × (k < group_size) × (7 ^ k % modulus ≡ x)
powers_reach x some below =
    let size : group_size ≡ 18446744069414584320 = group_size_is in
    let f : ℕ → ℕ = λ (k : ℕ). 7 ^ k % modulus - 1 in
    let low : IsBelow f group_size group_size =
    λ (i : ℕ) (h : i < group_size). let word : 7 ^ i % modulus < modulus = mod_word (7 ^ i) in omega arith in
    let injective : IsInjective f group_size =
    λ (i j : ℕ) (hi : i < group_size) (hj : j < group_size) (e : f i ≡ f j).
    let some_i : 0 < 7 ^ i % modulus = seven_some i (omega arith) in
    let some_j : 0 < 7 ^ j % modulus = seven_some j (omega arith) in
    seven_apart i j hi hj (omega arith) in
    let r : (k : ℕ) × (k < group_size) × (f k ≡ x - 1) =
    all_reached group_size f low injective (x - 1) (omega arith) in
    let some_r : 0 < 7 ^ r.0 % modulus = seven_some r.0 (omega arith) in
    let here : f r.0 ≡ x - 1 = r.2 in
    (r.0, r.1, omega arith)

-- ---- inverses

-- each word but 0 has a word whose product with it is 1
pub has_inverse : (x : ℕ) → 0 < x → x < modulus → (y : ℕ) × (y < modulus) × ((x * y) % modulus ≡ 1)
has_inverse x some below =
    let r : (k : ℕ) × (k < group_size) × (7 ^ k % modulus ≡ x) = powers_reach x some below in
    let y : ℕ = 7 ^ (group_size - r.0) % modulus in
    let same_x : Same x (7 ^ r.0) = ap (λ (n : ℕ). n % modulus) (sym r.2) ∙ same_mod (7 ^ r.0) in
    let same_y : Same (7 ^ (group_size - r.0) % modulus) (7 ^ (group_size - r.0)) = same_mod (7 ^ (group_size - r.0)) in
    let product : Same (x * (7 ^ (group_size - r.0) % modulus)) 1 =
    same_mul _ _ _ _ same_x same_y ∙ seven_back r.0 (omega arith) in
    (7 ^ (group_size - r.0) % modulus, mod_word (7 ^ (group_size - r.0)), product)

-- a word but 0 to the power p - 1 is 1
pub fermat : (x : ℕ) → 0 < x → x < modulus → x ^ group_size % modulus ≡ 1
fermat x some below =
    let r : (k : ℕ) × (k < group_size) × (7 ^ k % modulus ≡ x) = powers_reach x some below in
    let same_x : Same x (7 ^ r.0) = ap (λ (n : ℕ). n % modulus) (sym r.2) ∙ same_mod (7 ^ r.0) in
    same_pow x (7 ^ r.0) group_size same_x
    ∙ ap (λ (n : ℕ). n % modulus)
    (pow-pow 7 r.0 group_size ∙ ap (λ (n : ℕ). 7 ^ n) (mul_comm r.0 group_size) ∙ sym (pow-pow 7 group_size r.0))
    ∙ same_pow (7 ^ group_size) 1 r.0 (seven_full ∙ refl) ∙ ap (λ (n : ℕ). n % modulus) (one-pow r.0)

-- the power with the exponent p - 2 is the inverse
pub inverse_by_power : (x e : ℕ) → suc e ≡ group_size → 0 < x → x < modulus → (x * (x ^ e % modulus)) % modulus ≡ 1
inverse_by_power x e exponent some below =
    same_mul x x (x ^ e % modulus) (x ^ e) refl (same_mod (x ^ e))
    ∙ ap (λ (n : ℕ). n % modulus) (mul_comm x (x ^ e) ∙ sym (pow-suc x e) ∙ ap (λ (n : ℕ). x ^ n) exponent)
    ∙ fermat x some below

-- a product of words is 0 only where one of them is
pub no_zero_divisors : (a b : ℕ) → a < modulus → b < modulus → (a * b) % modulus ≡ 0 → (a ≡ 0) ⊎ (b ≡ 0)
no_zero_divisors a b a_below b_below e =
    ⊎_elim (λ (none : a ≡ 0). inl none)
    (λ (some : a ≡ 0 → ⊥).
    let r : (y : ℕ) × (y < modulus) × ((a * y) % modulus ≡ 1) = has_inverse a (above_zero a some) a_below in
    let nothing : a * 0 ≡ 0 = omega arith in
    let gone : Same b 0 =
    same_cancel_mul b 0 a r.0 (r.2 ∙ refl) (e ∙ ap (λ (n : ℕ). n % modulus) (sym nothing)) in
    inr (eq_from_same b 0 b_below (lit< tt) gone)) (cases_eq a 0)

-- a number one below the modulus is the size of the group
pub size_of_group : (n : ℕ) → n + 1 ≡ modulus → group_size ≡ n
size_of_group n e = let size : group_size ≡ 18446744069414584320 = group_size_is in omega arith

pub seven_has_order : HasOrder 7 group_size
seven_has_order =
    let size : group_size ≡ 18446744069414584320 = group_size_is in
    record {
      positive = omega arith;
      returns = seven_full;
      first = λ (k : ℕ) (some : 0 < k) (below : k < group_size) (one : 7 ^ k % modulus ≡ 1).
          seven_order k some below one;
    }

-- a word has one inverse at most
pub inverse_unique : (a b c : ℕ) → b < modulus → c < modulus → (a * b) % modulus ≡ 1 → (a * c) % modulus ≡ 1 → b ≡ c
inverse_unique a b c b_below c_below left right =
    eq_from_same b c b_below c_below (same_cancel_mul b c a b (left ∙ refl) (left ∙ sym right))
