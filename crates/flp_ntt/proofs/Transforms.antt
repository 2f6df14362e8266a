-- The transforms over the root of a size and over its inverse. From the roots up.
use Rattle.std.proofs.Common.{ℕ, suc, ◌≡◌, ◌-◌, ◌*◌, ◌%◌, ◌^◌, ◌<◌, ◌≤◌, List, length, get_or, map, arith, ap, sym, subst, ◌∙◌, refl}
use Rattle.std.specs.List.{Contains}
use Rattle.std.proofs.lemmas.List.{ext_get_or, get_or-map, length-map}
use Rattle.flp_field.specs.Word.{modulus, AreWords, word_product}
use Rattle.flp_field.specs.Order.{HasOrder}
use Rattle.flp_field.specs.Domain.{alpha, domain}
use Rattle.flp_field.proofs.Congruence.{same_mul, same_mod}
use Rattle.flp_field.proofs.RootsOfUnity.{alpha-half, alpha-order, domain_is_roots_from, domain_is_roots_to}
use Rattle.flp_poly.specs.Polynomial.{value_at, values_on}
use Rattle.flp_poly.specs.Interpolation.{Interpolates, inverse_root, inverse_size, interpolated}
use Rattle.flp_poly.proofs.Horner.{value_at-horner, horner_point}
use Rattle.flp_poly.proofs.Vanishing.{length-values_on, get_or-values_on}
use Rattle.flp_poly.proofs.Interpolation.{inverse-times, inverse-powers, length-interpolated, get_or-interpolated, interpolation_exists}
use Rattle.flp_ntt.specs.Levels.{HasHalfTurn}

-- ---- the roots

pub root_half_turn : (log : ℕ) → log ≤ 32 → HasHalfTurn (alpha (2 ^ log)) log
root_half_turn log small some =
    let whole : suc (log - 1) ≡ log = omega arith in
    ap (λ (n : ℕ). alpha (2 ^ n) ^ (2 ^ (log - 1)) % modulus) (sym whole) ∙ alpha-half (log - 1) (omega arith)

-- what gives 1 with -1 is -1
minus_one_from : (x y : ℕ) → y % modulus ≡ modulus - 1 → (x * y) % modulus ≡ 1 → x % modulus ≡ modulus - 1
minus_one_from x y minus one =
    let product : (x * (modulus - 1)) % modulus ≡ 1 = same_mul x x (modulus - 1) y refl (sym minus) ∙ one in
    omega arith

pub inverse_half_turn : (log : ℕ) → log ≤ 32 → HasHalfTurn (inverse_root (2 ^ log)) log
inverse_half_turn log small some =
    let order : HasOrder (alpha (2 ^ log)) (2 ^ log) = alpha-order log small in
    minus_one_from (inverse_root (2 ^ log) ^ (2 ^ (log - 1))) (alpha (2 ^ log) ^ (2 ^ (log - 1)))
    (root_half_turn log small some)
    (inverse-powers (alpha (2 ^ log)) (inverse_root (2 ^ log)) (2 ^ (log - 1))
    (inverse-times (alpha (2 ^ log)) (2 ^ log) order.positive order.returns))

-- ---- what the transforms give

same_value : (cs : List ℕ) (t : ℕ) → value_at cs t ≡ value_at cs (t % modulus)
same_value cs t =
    value_at-horner cs t ∙ sym (horner_point cs (t % modulus) t (same_mod t)) ∙ sym (value_at-horner cs (t % modulus))

pub values_from : (n : ℕ) (old new : List ℕ) → length old ≡ n → length new ≡ n
    → ((k : ℕ) → k < n → get_or new k 0 ≡ value_at old (alpha n ^ k)) → new ≡ values_on (length old) old
values_from n old new old_size new_size at =
    let count : length (values_on n old) ≡ n = length-values_on n old in
    ext_get_or 0 new (values_on n old) (omega arith)
    (λ (k : ℕ) (inside : k < length new).
    at k (omega arith) ∙ same_value old (alpha n ^ k) ∙ sym (get_or-values_on n old k (omega arith)))
    ∙ ap (λ (m : ℕ). values_on m old) (sym old_size)

pub interpolated_from : (n s : ℕ) (old values new : List ℕ) → length old ≡ n → length values ≡ n
    → ((k : ℕ) → k < n → get_or values k 0 ≡ value_at old (inverse_root n ^ k)) → s ≡ inverse_size n
    → new ≡ map (λ (x : ℕ). word_product s x) values → new ≡ interpolated old
interpolated_from n s old values new old_size size at unit scaled =
    let count : length (map (λ (x : ℕ). word_product s x) values) ≡ length values =
    length-map values (λ (x : ℕ). word_product s x) in
    let whole : length (interpolated old) ≡ length old = length-interpolated old in
    scaled
    ∙ ext_get_or 0 (map (λ (x : ℕ). word_product s x) values) (interpolated old) (omega arith)
    (λ (k : ℕ) (inside : k < length (map (λ (x : ℕ). word_product s x) values)).
    get_or-map (λ (x : ℕ). word_product s x) values k 0 0 (omega arith)
    ∙ ap (λ (x : ℕ). word_product s x) (at k (omega arith) ∙ same_value old (inverse_root n ^ k))
    ∙ ap (λ (x : ℕ). word_product x (value_at old (inverse_root n ^ k % modulus))) unit
    ∙ ap (λ (m : ℕ). word_product (inverse_size m) (value_at old (inverse_root m ^ k % modulus))) (sym old_size)
    ∙ sym (get_or-interpolated old k (omega arith)))

pub interpolates_from : (log : ℕ) (old new : List ℕ) → log ≤ 20 → AreWords old → length old ≡ 2 ^ log
    → new ≡ interpolated old → Interpolates new old
interpolates_from log old new small words size is =
    let P : List ℕ → Type 0 = λ (l : List ℕ). Interpolates l old in
    subst P (sym is) (interpolation_exists log old (omega arith) words size)

-- ---- points of the domain

pub inside_from : (log n t : ℕ) → log ≤ 20 → n ≡ 2 ^ log → t < modulus → t ^ n % modulus ≡ 1 → Contains (domain n) t
inside_from log n t small size word one =
    let P : ℕ → Type 0 = λ (m : ℕ). t ^ m % modulus ≡ 1 → Contains (domain m) t in
    subst P (sym size) (domain_is_roots_to log t (omega arith) word) one

pub inside_to : (log n t : ℕ) → log ≤ 20 → n ≡ 2 ^ log → t < modulus → Contains (domain n) t → t ^ n % modulus ≡ 1
inside_to log n t small size word inside =
    let P : ℕ → Type 0 = λ (m : ℕ). Contains (domain m) t → t ^ m % modulus ≡ 1 in
    subst P (sym size) (domain_is_roots_from log t (omega arith) word) inside
