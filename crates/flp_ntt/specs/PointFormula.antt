-- The value at a point outside a domain, by inverses of the differences of the point and those of the domain. From the
-- inverse of a word up to the laws.
use Rattle.std.specs.Prelude.{ℕ, ◌≡◌, ◌-◌, ◌*◌, ◌%◌, ◌^◌, ◌<◌, ◌≤◌, List, length, map, sum, slice_index}
use Rattle.std.specs.List.{range_with_len, Contains}
use Rattle.flp_field.specs.Word.{modulus, IsWord, word_difference, word_product, word_power}
use Rattle.flp_field.specs.Domain.{alpha, domain}
use Rattle.flp_poly.specs.Polynomial.{value_at}
use Rattle.flp_poly.specs.Interpolation.{inverse_size, interpolated}

-- the inverse of a word that is not 0: its power with the exponent p - 2. A proof takes what it is from the law
unfoldable pub word_inverse : ℕ → ℕ
word_inverse a = word_power a (modulus - 2)

-- it is
abbrev pub InverseIsInverse : Type 0
InverseIsInverse = (a : ℕ) → 0 < a → IsWord a → word_product a (word_inverse a) ≡ 1

-- a^i / (t - a^i), where a is the root of this size
abbrev pub part_at : (size t i : ℕ) → ℕ
part_at size t i =
    word_product (word_power (alpha size) i) (word_inverse (word_difference t (word_power (alpha size) i)))

-- (t^P - 1) / P times the sum of y_i * a^i / (t - a^i), where P is the number of the values y_i
abbrev pub formula : (values : List ℕ) → (t : ℕ) → ℕ
formula values t =
    word_product (word_product (word_difference (word_power t (length values)) 1) (inverse_size (length values)))
    (sum (map (λ i. slice_index values i * part_at (length values) t i) (range_with_len 0 (length values))) % modulus)

-- it is the value there of the polynomial through the values
abbrev pub AtPointFormula : Type 0
AtPointFormula =
    (log t : ℕ) (values : List ℕ) → log ≤ 32 → length values ≡ 2 ^ log → IsWord t
    → (Contains (domain (2 ^ log)) t → ⊥) → value_at (interpolated values) t ≡ formula values t
