-- Divisors by differences: what a set that is closed under differences says of a greatest common divisor, and what
-- a prime number divides. Up to the cases of a divisor of p - 1.
use Rattle.std.proofs.Common.{ℕ, suc, zero, ◌≡◌, ◌+◌, ◌-◌, ◌*◌, ◌/◌, ◌%◌, ◌^◌, ◌<◌, ◌≤◌, ◌⊎◌, Bool, true, not, eqb, ◌&&◌, ◌||◌, lit<, lit≤, arith, ap, sym, subst, ◌∙◌, refl, inl, inr, ⊎_elim}
use Rattle.std.specs.Int.{IsGcd, ◌∣◌}
use Rattle.std.proofs.Math.Nat.{mul-sub, dvd-sub, dvd-mul_left, mul-div_cancel', eq-one_of_dvd-one, pow-suc}
use Rattle.std.proofs.lemmas.Nat.Gcd.{IsGcd-from_zero, IsGcd-swap, IsGcd-from_sub, mod-eq-zero_of_dvd}
use Rattle.std.proofs.lemmas.Nat.{mul-le}
use Rattle.std.proofs.lemmas.Bool.{cases_eq, cases_lt, and_parts, or_cases, eqb-true, eqb-false, not-true}

-- the difference of two members is a member
abbrev pub IsClosed : (ℕ → Type 0) → Type 0
IsClosed P = (a b : ℕ) → b ≤ a → P a → P b → P (a - b)

-- a closed set with a and b has their greatest common divisor
gcd_within : (n : ℕ) (P : ℕ → Type 0) → IsClosed P → (a b : ℕ) → a + b ≤ n → P a → P b → (g : ℕ) × IsGcd a b g × P g
gcd_within zero P closed a b small in_a in_b = (a, IsGcd-from_zero a b (omega arith), in_a)
gcd_within (suc n) P closed a b small in_a in_b =
    ⊎_elim (λ (e : b ≡ 0). (a, IsGcd-from_zero a b e, in_a))
    (λ (some_b : b ≡ 0 → ⊥).
    ⊎_elim (λ (e : a ≡ 0). (b, IsGcd-swap b a b (IsGcd-from_zero b a e), in_b))
    (λ (some_a : a ≡ 0 → ⊥).
    ⊎_elim
    (λ (l : a < b).
    let below : b - a + a ≤ n = omega arith in
    let r : (g : ℕ) × IsGcd (b - a) a g × P g =
    gcd_within n P closed (b - a) a below (closed b a (omega arith) in_b in_a) in_a in
    (r.0, IsGcd-swap b a r.0 (IsGcd-from_sub b a r.0 (omega arith) r.1), r.2))
    (λ (l : b ≤ a).
    let below : a - b + b ≤ n = omega arith in
    let r : (g : ℕ) × IsGcd (a - b) b g × P g =
    gcd_within n P closed (a - b) b below (closed a b l in_a in_b) in_b in
    (r.0, IsGcd-from_sub a b r.0 l r.1, r.2)) (cases_lt a b)) (cases_eq a 0)) (cases_eq b 0)

pub gcd_in : (P : ℕ → Type 0) → IsClosed P → (a b : ℕ) → P a → P b → (g : ℕ) × IsGcd a b g × P g
gcd_in P closed a b in_a in_b = gcd_within (a + b) P closed a b (omega arith) in_a in_b

ones : (d : ℕ) → d < 2 → (d ≡ 0 → ⊥) → d ≡ 1
ones zero small some = absurd (some refl)
ones (suc zero) small some = refl
ones (suc (suc d)) small some = omega arith

-- only 1 and the number itself divide it
abbrev pub IsPrime : ℕ → Type 0
IsPrime q = (d : ℕ) → d ∣ q → (d ≡ 1) ⊎ (d ≡ q)

-- what divides a product with a prime factor has that factor, or divides the rest
pub peel : (q e m : ℕ) → IsPrime q → e ∣ m * q → (q ∣ e) ⊎ (e ∣ m)
peel q e m prime divides =
    let P : ℕ → Type 0 = λ (x : ℕ). e ∣ m * x in
    let Q : ℕ → Type 0 = λ (x : ℕ). e ∣ x in
    let R : ℕ → Type 0 = λ (x : ℕ). x ∣ e in
    let closed : IsClosed P =
    λ (a b : ℕ) (l : b ≤ a) (in_a : e ∣ m * a) (in_b : e ∣ m * b).
    subst Q (sym (mul-sub m a b)) (dvd-sub e in_a in_b) in
    let r : (g : ℕ) × IsGcd q e g × P g = gcd_in P closed q e divides (dvd-mul_left e m) in
    ⊎_elim
    (λ (e_one : r.0 ≡ 1).
    let one : m * r.0 ≡ m = ap (λ (x : ℕ). m * x) e_one ∙ (omega arith) in inr (subst Q one r.2))
    (λ (e_all : r.0 ≡ q). inl (subst R e_all r.1.1)) (prime r.0 r.1.0)

-- no number from 2 to r divides q: a test that computes
unfoldable none_divides : ℕ → ℕ → Bool
none_divides q zero = true
none_divides q (suc d) = none_divides q d && (eqb d 0 || not (eqb (q % suc d) 0))

none_at : (q r d : ℕ) → none_divides q r ≡ true → 2 ≤ d → d ≤ r → d ∣ q → ⊥
unfolding none_divides
none_at q zero d tested low high divides = omega arith
none_at q (suc r) d tested low high divides =
    let parts : (none_divides q r ≡ true) × ((eqb r 0 || not (eqb (q % suc r) 0)) ≡ true) =
    and_parts (none_divides q r) (eqb r 0 || not (eqb (q % suc r) 0)) tested in
    ⊎_elim
    (λ (here : d ≡ suc r).
    ⊎_elim (λ (t : eqb r 0 ≡ true). let first : r ≡ 0 = eqb-true r 0 t in omega arith)
    (λ (t : not (eqb (q % suc r) 0) ≡ true).
    let P : ℕ → Type 0 = λ (x : ℕ). x ∣ q in
    eqb-false (q % suc r) 0 (not-true (eqb (q % suc r) 0) t)
    (mod-eq-zero_of_dvd (suc r) (subst P here divides)))
    (or_cases (eqb r 0) (not (eqb (q % suc r) 0)) parts.1))
    (λ (other : d ≡ suc r → ⊥).
    ⊎_elim (λ (l : d < suc r). none_at q r d parts.0 low (omega arith) divides)
    (λ (l : suc r ≤ d). other (omega arith)) (cases_lt d (suc r))) (cases_eq d (suc r))

-- trial division up to the square root
prime_by_trial : (q r : ℕ) → 2 ≤ q → q < suc r * suc r → none_divides q r ≡ true → IsPrime q
prime_by_trial q r large root tested d divides =
    let c : ℕ = q / d in
    let product : d * (q / d) ≡ q = mul-div_cancel' d divides in
    let P : ℕ → Type 0 = λ (x : ℕ). q / d ∣ x in
    let turned : q / d ∣ q = subst P product (dvd-mul_left (q / d) d) in
    ⊎_elim
    (λ (small : d < 2).
    ⊎_elim
    (λ (e : d ≡ 0).
    let nothing : d * (q / d) ≡ 0 = ap (λ (x : ℕ). x * (q / d)) e ∙ (omega arith) in absurd (omega arith))
    (λ (some : d ≡ 0 → ⊥). inl (ones d small some)) (cases_eq d 0))
    (λ (high_d : 2 ≤ d).
    ⊎_elim (λ (low_d : d < suc r). absurd (none_at q r d tested high_d (omega arith) divides))
    (λ (over : suc r ≤ d).
    ⊎_elim
    (λ (low_c : q / d < 2).
    ⊎_elim
    (λ (e : q / d ≡ 0).
    let nothing : d * (q / d) ≡ 0 = ap (λ (x : ℕ). d * x) e ∙ (omega arith) in absurd (omega arith))
    (λ (some : q / d ≡ 0 → ⊥).
    let one : q / d ≡ 1 = ones (q / d) low_c some in
    let whole : d * (q / d) ≡ d = ap (λ (x : ℕ). d * x) one ∙ (omega arith) in
    inr (sym whole ∙ product)) (cases_eq (q / d) 0))
    (λ (high_c : 2 ≤ q / d).
    ⊎_elim (λ (l : q / d < suc r). absurd (none_at q r (q / d) tested high_c (omega arith) turned))
    (λ (l : suc r ≤ q / d).
    let square : suc r * suc r ≤ d * (q / d) = mul-le (suc r) (suc r) d (q / d) over l in
    absurd (omega arith)) (cases_lt (q / d) (suc r))) (cases_lt (q / d) 2)) (cases_lt d (suc r)))
    (cases_lt d 2)

pub prime_2 : IsPrime 2
unfolding none_divides
prime_2 = prime_by_trial 2 1 (lit≤ tt) (lit< tt) refl

pub prime_3 : IsPrime 3
unfolding none_divides
prime_3 = prime_by_trial 3 1 (lit≤ tt) (lit< tt) refl

pub prime_5 : IsPrime 5
unfolding none_divides
prime_5 = prime_by_trial 5 2 (lit≤ tt) (lit< tt) refl

pub prime_17 : IsPrime 17
unfolding none_divides
prime_17 = prime_by_trial 17 4 (lit≤ tt) (lit< tt) refl

pub prime_257 : IsPrime 257
unfolding none_divides
prime_257 = prime_by_trial 257 16 (lit≤ tt) (lit< tt) refl

pub prime_65537 : IsPrime 65537
unfolding none_divides
prime_65537 = prime_by_trial 65537 256 (lit≤ tt) (lit< tt) refl

-- what divides a power of 2 is even or 1
pub peel_twos : (k e : ℕ) → e ∣ 2 ^ k → (2 ∣ e) ⊎ (e ≡ 1)
peel_twos zero e divides = inr (eq-one_of_dvd-one divides)
peel_twos (suc k) e divides =
    let P : ℕ → Type 0 = λ (x : ℕ). e ∣ x in
    ⊎_elim (λ (h : 2 ∣ e). inl h) (λ (h : e ∣ 2 ^ k). peel_twos k e h)
    (peel 2 e (2 ^ k) prime_2 (subst P (pow-suc 2 k) divides))
