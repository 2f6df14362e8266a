-- Powers of numbers, and the step of the fast power, which halves the exponent.
use Rattle.std.proofs.Common.{ℕ, suc, zero, ◌≡◌, ◌+◌, ◌*◌, ◌/◌, ◌%◌, ◌^◌, arith, ap, sym, ◌∙◌, refl, add-one}
use Rattle.std.proofs.Math.Nat.{pow-suc, pow-zero, mul-suc, mul-zero}
use Rattle.std.proofs.lemmas.Nat.{pow-add, mul-pow}
use Rattle.flp_field.specs.Word.{modulus}
use Rattle.flp_field.proofs.Congruence.{Same, same_mod, same_mul, same_pow}

-- a power of a power
pub pow-pow : (a j k : ℕ) → (a ^ j) ^ k ≡ a ^ (j * k)
pow-pow a j zero = pow-zero (a ^ j) ∙ sym (ap (λ (x : ℕ). a ^ x) (mul-zero j) ∙ pow-zero a)
pow-pow a j (suc k) = rw (pow-suc, pow-pow a j k, mul-suc, pow-add)

pub one-pow : (k : ℕ) → 1 ^ k ≡ 1
one-pow zero = refl
one-pow (suc k) = rw (pow-suc, one-pow k)

pub square-pow : (s k : ℕ) → (s * s) ^ k ≡ s ^ (k + k)
square-pow s k = mul-pow s s k ∙ sym (pow-add s k k)

-- an odd exponent: one factor goes to the power that is built, and the rest is a power of the square
pub power_odd : (v s n : ℕ) → n % 2 ≡ 1 → Same ((v * s) % modulus * ((s * s) % modulus) ^ (n / 2)) (v * s ^ n)
power_odd v s n odd =
    let halved : n ≡ suc (n / 2 + n / 2) = omega arith in
    let split : s ^ n ≡ s ^ (n / 2 + n / 2) * s = ap (λ (x : ℕ). s ^ x) halved ∙ pow-suc s (n / 2 + n / 2) in
    let peeled : Same ((v * s) % modulus * ((s * s) % modulus) ^ (n / 2)) (v * s * (s * s) ^ (n / 2)) =
    same_mul _ _ _ _ (same_mod (v * s)) (same_pow _ _ (n / 2) (same_mod (s * s))) in
    peeled ∙ ap (λ (x : ℕ). x % modulus) (rw (split, square-pow) (omega arith))

-- an even exponent: the power is a power of the square
pub power_even : (v s n : ℕ) → n % 2 ≡ 0 → Same (v * ((s * s) % modulus) ^ (n / 2)) (v * s ^ n)
power_even v s n even =
    let halved : n ≡ n / 2 + n / 2 = omega arith in
    let split : s ^ n ≡ s ^ (n / 2 + n / 2) = ap (λ (x : ℕ). s ^ x) halved in
    let peeled : Same (v * ((s * s) % modulus) ^ (n / 2)) (v * (s * s) ^ (n / 2)) =
    same_mul v v _ _ refl (same_pow _ _ (n / 2) (same_mod (s * s))) in
    peeled ∙ ap (λ (x : ℕ). x % modulus) (rw (split, square-pow) refl)

pub pow-one : (x : ℕ) → x ^ 1 ≡ x
pow-one x = let step : x ^ 1 ≡ x ^ 0 * x = pow-suc x 0 in rw (step, pow-zero) (omega arith)

-- one more squaring
pub squared_turn : (s x k : ℕ) → Same s (x ^ (2 ^ k)) → Same ((s * s) % modulus) (x ^ (2 ^ (k + 1)))
squared_turn s x k e =
    let double : 2 ^ (k + 1) ≡ 2 ^ k + 2 ^ k = ap (λ (n : ℕ). 2 ^ n) (add-one k) ∙ pow-suc 2 k ∙ (omega arith) in
    same_mod (s * s) ∙ same_mul s (x ^ (2 ^ k)) s (x ^ (2 ^ k)) e e
    ∙ ap (λ (n : ℕ). n % modulus) (sym (pow-add x (2 ^ k) (2 ^ k)) ∙ ap (λ (n : ℕ). x ^ n) (sym double))

-- a power shifted by n squarings, times another power
pub shifted-power : (x a b y z n s : ℕ) → y ≡ x ^ a % modulus → z ≡ x ^ b % modulus → a * 2 ^ n + b ≡ s
    → (y ^ (2 ^ n) % modulus * z) % modulus ≡ x ^ s % modulus
shifted-power x a b y z n s y_is z_is sum =
    let same_y : Same y (x ^ a) = ap (λ (k : ℕ). k % modulus) y_is ∙ same_mod (x ^ a) in
    let same_z : Same z (x ^ b) = ap (λ (k : ℕ). k % modulus) z_is ∙ same_mod (x ^ b) in
    same_mul _ _ _ _ (same_mod (y ^ (2 ^ n)) ∙ same_pow y (x ^ a) (2 ^ n) same_y) same_z
    ∙ ap (λ (k : ℕ). k % modulus)
    (ap (λ (k : ℕ). k * x ^ b) (pow-pow x a (2 ^ n)) ∙ sym (pow-add x (a * 2 ^ n) b) ∙ ap (λ (k : ℕ). x ^ k) sum)
