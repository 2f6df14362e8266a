-- A polynomial modulo x^P - 1: where the power of a point with the exponent P is 1, its coefficients may be added up by
-- their index modulo P. From one coefficient up to the values on a domain.
use Rattle.std.proofs.Common.{ℕ, suc, zero, ◌≡◌, ◌+◌, ◌*◌, ◌%◌, ◌^◌, ◌<◌, ◌≤◌, List, [], ◌∷◌, length, get_or, take, arith, ap, ap₂, sym, ◌∙◌, refl, add-one, slice_set}
use Rattle.std.proofs.Math.Nat.{pow-suc, pow-zero, mul_comm}
use Rattle.std.proofs.lemmas.List.{take_more, ext_get_or, length-take-le}
use Rattle.flp_field.specs.Word.{modulus}
use Rattle.flp_field.specs.Domain.{alpha}
use Rattle.flp_field.proofs.Congruence.{Same, same_add, same_mul, same_pow, same_mod}
use Rattle.flp_field.proofs.Powers.{pow-pow}
use Rattle.flp_field.proofs.Order.{more_ones}
use Rattle.flp_field.proofs.RootsOfUnity.{alpha-full}
use Rattle.flp_poly.specs.Polynomial.{value_at, values_on}
use Rattle.flp_poly.proofs.Horner.{horner, horner-append}
use Rattle.flp_poly.proofs.Vanishing.{length-values_on, get_or-values_on}

-- the polynomial 0
pub horner-zeros : (cs : List ℕ) (t : ℕ) → ((k : ℕ) → k < length cs → get_or cs k 0 ≡ 0) → horner cs t ≡ 0
horner-zeros [] t none = refl
horner-zeros (c ∷ cs) t none =
    let first : c ≡ 0 = none 0 (omega arith) in
    let rest : t * horner cs t ≡ t * 0 =
    ap (λ (x : ℕ). t * x) (horner-zeros cs t (λ (k : ℕ) (h : k < length cs). none (suc k) (omega arith))) in
    omega arith

-- one coefficient more by so much
added : (cs : List ℕ) (i x y t : ℕ) → i < length cs → x ≡ (get_or cs i 0 + y) % modulus
    → Same (horner (slice_set cs i x) t) (horner cs t + y * t ^ i)
added [] i x y t inside is = absurd (omega arith)
added (c ∷ cs) zero x y t inside is =
    let one : y * t ^ 0 ≡ y * 1 = ap (λ (p : ℕ). y * p) (pow-zero t) in
    let turned : c + y + t * horner cs t ≡ c + t * horner cs t + y * t ^ 0 = omega arith in
    same_add x (c + y) (t * horner cs t) (t * horner cs t)
    (ap (λ (p : ℕ). p % modulus) is ∙ same_mod (c + y)) refl
    ∙ ap (λ (p : ℕ). p % modulus) turned
added (c ∷ cs) (suc i) x y t inside is =
    let rest : Same (horner (slice_set cs i x) t) (horner cs t + y * t ^ i) = added cs i x y t (omega arith) is in
    let power : y * t ^ suc i ≡ y * (t ^ i * t) = ap (λ (p : ℕ). y * p) (pow-suc t i) in
    let turned : c + t * (horner cs t + y * t ^ i) ≡ c + t * horner cs t + y * t ^ suc i = omega arith in
    same_add c c (t * horner (slice_set cs i x) t) (t * (horner cs t + y * t ^ i)) refl
    (same_mul t t (horner (slice_set cs i x) t) (horner cs t + y * t ^ i) refl rest)
    ∙ ap (λ (p : ℕ). p % modulus) turned

-- the step of a fold: the next coefficient is added at a place whose power is that of its index
pub fold_step : (cs poly : List ℕ) (place k x y t : ℕ) → place < length cs → k < length poly
    → x ≡ (get_or cs place 0 + y) % modulus → y ≡ get_or poly k 0 → Same (t ^ place) (t ^ k)
    → Same (horner cs t) (horner (take k poly) t) → Same (horner (slice_set cs place x) t) (horner (take (k + 1) poly) t)
fold_step cs poly place k x y t inside below is read turn before =
    let size : length (take k poly) ≡ k = length-take-le k poly (omega arith) in
    let last : get_or poly k 0 + t * 0 ≡ get_or poly k 0 = omega arith in
    let turned : t ^ k * y ≡ y * t ^ k = mul_comm (t ^ k) y in
    let more : horner (take (k + 1) poly) t ≡ horner (take k poly) t + y * t ^ k =
    ap (λ (l : List ℕ). horner l t) (take_more poly k 0 below)
    ∙ horner-append (take k poly) (get_or poly k 0 ∷ []) t
    ∙ ap₂ (λ (n c : ℕ). horner (take k poly) t + t ^ n * c) size (last ∙ sym read)
    ∙ ap (λ (p : ℕ). horner (take k poly) t + p) turned in
    added cs place x y t inside is
    ∙ same_add (horner cs t) (horner (take k poly) t) (y * t ^ place) (y * t ^ k) before
    (same_mul y y (t ^ place) (t ^ k) refl turn)
    ∙ ap (λ (p : ℕ). p % modulus) (sym more)

-- the power after one
pub next_turn : (t place k next : ℕ) → Same (t ^ place) (t ^ k) → Same (t ^ next) (t ^ (place + 1))
    → Same (t ^ next) (t ^ (k + 1))
next_turn t place k next turn step =
    let a : t ^ (place + 1) ≡ t ^ place * t = ap (λ (n : ℕ). t ^ n) (add-one place) ∙ pow-suc t place in
    let b : t ^ (k + 1) ≡ t ^ k * t = ap (λ (n : ℕ). t ^ n) (add-one k) ∙ pow-suc t k in
    step ∙ ap (λ (x : ℕ). x % modulus) a ∙ same_mul (t ^ place) (t ^ k) t t turn refl
    ∙ ap (λ (x : ℕ). x % modulus) (sym b)

-- polynomials that have the same value at each root have the same values on the domain
pub folded_values : (log n : ℕ) (cs poly : List ℕ) → log ≤ 32 → n ≡ 2 ^ log
    → ((t : ℕ) → t ^ n % modulus ≡ 1 → value_at cs t ≡ value_at poly t) → values_on n cs ≡ values_on n poly
folded_values log n cs poly small size same =
    let count : length (values_on n cs) ≡ n = length-values_on n cs in
    let other : length (values_on n poly) ≡ n = length-values_on n poly in
    let full : alpha n ^ n % modulus ≡ 1 =
    ap (λ (m : ℕ). alpha m ^ m % modulus) size ∙ alpha-full log small in
    ext_get_or 0 (values_on n cs) (values_on n poly) (omega arith)
    (λ (k : ℕ) (inside : k < length (values_on n cs)).
    get_or-values_on n cs k (omega arith)
    ∙ same (alpha n ^ k % modulus)
    (same_pow (alpha n ^ k % modulus) (alpha n ^ k) n (same_mod (alpha n ^ k))
    ∙ ap (λ (x : ℕ). x % modulus)
    (pow-pow (alpha n) k n ∙ ap (λ (e : ℕ). alpha n ^ e) (mul_comm k n))
    ∙ more_ones (alpha n) n k full)
    ∙ sym (get_or-values_on n poly k (omega arith)))
