-- Numbers that are the same word: congruence modulo p, which sums, products and powers keep. From the relation up.
use Rattle.std.proofs.Common.{ℕ, ◌≡◌, ◌+◌, ◌*◌, ◌%◌, ◌^◌, ◌<◌, arith, ap, ap₂, sym, ◌∙◌}
use Rattle.std.proofs.Math.Nat.{add-mod, mod-mod, mod-eq_of_lt}
use Rattle.std.proofs.lemmas.Nat.{mul-mod, pow-mod}
use Rattle.flp_field.specs.Word.{modulus}

-- the two numbers have one remainder, so they are one word
abbrev pub Same : ℕ → ℕ → Type 0
Same a b = a % modulus ≡ b % modulus

-- equal numbers are the same word
pub same_eq : (a b : ℕ) → a ≡ b → Same a b
same_eq a b e = ap (λ (x : ℕ). x % modulus) e

-- a number and its remainder
pub same_mod : (a : ℕ) → Same (a % modulus) a
same_mod a = mod-mod a modulus

-- words that are the same are equal
pub eq_from_same : (a b : ℕ) → a < modulus → b < modulus → Same a b → a ≡ b
eq_from_same a b a_below b_below e = omega arith

-- a word is its own remainder
pub word_mod : (a : ℕ) → a < modulus → a % modulus ≡ a
word_mod a below = mod-eq_of_lt below

-- a remainder is a word
pub mod_word : (a : ℕ) → a % modulus < modulus
mod_word a = omega arith

pub same_add : (a b c d : ℕ) → Same a b → Same c d → Same (a + c) (b + d)
same_add a b c d e f =
    add-mod a c modulus ∙ ap₂ (λ (x : ℕ) (y : ℕ). (x + y) % modulus) e f ∙ sym (add-mod b d modulus)

pub same_mul : (a b c d : ℕ) → Same a b → Same c d → Same (a * c) (b * d)
same_mul a b c d e f =
    mul-mod a c modulus ∙ ap₂ (λ (x : ℕ) (y : ℕ). (x * y) % modulus) e f ∙ sym (mul-mod b d modulus)

pub same_pow : (a b k : ℕ) → Same a b → Same (a ^ k) (b ^ k)
same_pow a b k e = sym (pow-mod a k modulus) ∙ ap (λ (x : ℕ). x ^ k % modulus) e ∙ pow-mod b k modulus

-- what two numbers have in common as a summand may be left out
pub same_cancel : (a b c : ℕ) → Same (a + c) (b + c) → Same a b
same_cancel a b c e = omega arith
