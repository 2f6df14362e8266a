-- The polynomial through given values on a domain. From the relation to the function that computes the coefficients, and the laws.
use Rattle.std.specs.Prelude.{ℕ, ◌≡◌, ◌-◌, ◌/◌, ◌^◌, ◌≤◌, List, length, map}
use Rattle.std.specs.List.{range_with_len}
use Rattle.flp_field.specs.Word.{modulus, AreWords, word_power, word_product}
use Rattle.flp_field.specs.Domain.{alpha}
use Rattle.flp_poly.specs.Polynomial.{value_at, values_on}

-- a polynomial with as many coefficients as there are values, which has these values on the domain of their number
pub record Interpolates (coefficients values : List ℕ) : Type 0 where
  pub words : AreWords coefficients
  pub size : length coefficients ≡ length values
  pub agrees : values_on (length values) coefficients ≡ values

-- the inverse of the root of unity of this size
abbrev pub inverse_root : ℕ → ℕ
inverse_root size = word_power (alpha size) (size - 1)

-- the inverse of this size, a power of two up to 2^32, which divides p - 1
abbrev pub inverse_size : ℕ → ℕ
inverse_size size = modulus - (modulus - 1) / size

-- these are the inverses
abbrev pub DomainHasInverses : Type 0
DomainHasInverses =
    (log : ℕ) → log ≤ 32
    → (word_product (inverse_root (2 ^ log)) (alpha (2 ^ log)) ≡ 1) × (word_product (inverse_size (2 ^ log)) (2 ^ log) ≡ 1)

-- the coefficients through these values: number k is their value, as a polynomial, at the power k of the inverse root,
-- over their number. A proof takes what it is from the laws
unfoldable pub interpolated : List ℕ → List ℕ
interpolated values =
    map
    (λ k. word_product (inverse_size (length values)) (value_at values (word_power (inverse_root (length values)) k)))
    (range_with_len 0 (length values))

-- each list of words whose number is a power of two is the values of some polynomial of as many coefficients
abbrev pub InterpolationExists : Type 0
InterpolationExists =
    (log : ℕ) (values : List ℕ) → log ≤ 32 → AreWords values → length values ≡ 2 ^ log
    → Interpolates (interpolated values) values

-- and of one only
abbrev pub InterpolationIsUnique : Type 0
InterpolationIsUnique =
    (log : ℕ) (p q values : List ℕ) → log ≤ 32 → length values ≡ 2 ^ log → Interpolates p values
    → Interpolates q values → p ≡ q
