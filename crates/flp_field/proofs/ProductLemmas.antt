-- The laws of products on numbers, and what a product of two words says of a third.
use Rattle.std.proofs.Common.{ℕ, ◌≡◌, ◌+◌, ◌-◌, ◌*◌, ◌%◌, ◌<◌, arith, sym, ap, ◌∙◌, refl, ⊎_elim}
use Rattle.flp_field.specs.Word.{modulus}
use Rattle.flp_field.proofs.Congruence.{Same, same_mod, same_mul, same_add, mod_word}
use Rattle.flp_field.proofs.Order.{no_zero_divisors}

add_mul : (a b x : ℕ) → (a + b) * x ≡ a * x + b * x
add_mul a b x = omega arith

pub product_associates : (a b c : ℕ) → Same ((a * b) % modulus * c) (a * ((b * c) % modulus))
product_associates a b c =
    let regrouped : a * b * c ≡ a * (b * c) = omega arith in
    same_mul _ (a * b) c c (same_mod (a * b)) refl ∙ ap (λ (x : ℕ). x % modulus) regrouped
    ∙ sym (same_mul a a _ (b * c) refl (same_mod (b * c)))

pub product_distributes : (a b c : ℕ) → Same (a * ((b + c) % modulus)) ((a * b) % modulus + (a * c) % modulus)
product_distributes a b c =
    let spread : a * (b + c) ≡ a * b + a * c = omega arith in
    same_mul a a _ (b + c) refl (same_mod (b + c)) ∙ ap (λ (x : ℕ). x % modulus) spread
    ∙ sym (same_add _ (a * b) _ (a * c) (same_mod (a * b)) (same_mod (a * c)))

-- where two different words have one product with x, x is 0
pub cancelled : (r s x : ℕ) → r < modulus → s < modulus → (r ≡ s → ⊥) → Same (r * x) (s * x) → x % modulus ≡ 0
cancelled r s x r_below s_below differ e =
    let d : ℕ = r + (modulus - s) in
    let whole : s + (modulus - s) ≡ modulus = omega arith in
    let spread : (r + (modulus - s)) * x ≡ r * x + (modulus - s) * x = omega arith in
    let joined : s * x + (modulus - s) * x ≡ modulus * x =
    sym (add_mul s (modulus - s) x) ∙ ap (λ (n : ℕ). n * x) whole in
    let nothing : Same (modulus * x) 0 = omega arith in
    let gone : Same ((r + (modulus - s)) * x) 0 =
    ap (λ (n : ℕ). n % modulus) spread
    ∙ same_add (r * x) (s * x) ((modulus - s) * x) ((modulus - s) * x) e refl
    ∙ ap (λ (n : ℕ). n % modulus) joined ∙ nothing in
    let words : Same ((r + (modulus - s)) % modulus * (x % modulus)) ((r + (modulus - s)) * x) =
    same_mul _ (r + (modulus - s)) _ x (same_mod (r + (modulus - s))) (same_mod x) in
    ⊎_elim
    (λ (none : (r + (modulus - s)) % modulus ≡ 0).
    let same : r ≡ s = omega arith in absurd (differ same))
    (λ (none : x % modulus ≡ 0). none)
    (no_zero_divisors ((r + (modulus - s)) % modulus) (x % modulus) (mod_word (r + (modulus - s))) (mod_word x)
    (words ∙ gone))
