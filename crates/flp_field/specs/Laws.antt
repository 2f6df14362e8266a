-- The laws of a field, each on numbers that are words. From sums to products and inverses, and how a product is reduced.
use Rattle.std.specs.Prelude.{ℕ, ◌≡◌, ◌+◌, ◌-◌, ◌*◌, ◌%◌, ◌^◌, ◌<◌, ◌⊎◌}
use Rattle.flp_field.specs.Word.{modulus, IsWord, word_sum, word_difference, word_negation, word_product}

abbrev pub SumAssociates : Type 0
SumAssociates = (a b c : ℕ) → word_sum (word_sum a b) c ≡ word_sum a (word_sum b c)

abbrev pub SumCommutes : Type 0
SumCommutes = (a b : ℕ) → word_sum a b ≡ word_sum b a

abbrev pub SumHasZero : Type 0
SumHasZero = (a : ℕ) → IsWord a → word_sum a 0 ≡ a

abbrev pub SumHasNegation : Type 0
SumHasNegation = (a : ℕ) → IsWord a → word_sum a (word_negation a) ≡ 0

-- a difference is the sum with the negation
abbrev pub DifferenceNegates : Type 0
DifferenceNegates = (a b : ℕ) → IsWord b → word_difference a b ≡ word_sum a (word_negation b)

abbrev pub ProductAssociates : Type 0
ProductAssociates = (a b c : ℕ) → word_product (word_product a b) c ≡ word_product a (word_product b c)

abbrev pub ProductCommutes : Type 0
ProductCommutes = (a b : ℕ) → word_product a b ≡ word_product b a

abbrev pub ProductHasOne : Type 0
ProductHasOne = (a : ℕ) → IsWord a → word_product a 1 ≡ a

abbrev pub ProductDistributes : Type 0
ProductDistributes = (a b c : ℕ) → word_product a (word_sum b c) ≡ word_sum (word_product a b) (word_product a c)

-- a product is 0 only where a factor is
abbrev pub NoZeroDivisors : Type 0
NoZeroDivisors = (a b : ℕ) → IsWord a → IsWord b → word_product a b ≡ 0 → (a ≡ 0) ⊎ (b ≡ 0)

-- a word that is not 0 has one inverse: a word whose product with it is 1
abbrev pub HasInverses : Type 0
HasInverses = (a : ℕ) → 0 < a → IsWord a → (b : ℕ) × IsWord b × (word_product a b ≡ 1)

abbrev pub InversesAreUnique : Type 0
InversesAreUnique = (a b c : ℕ) → IsWord b → IsWord c → word_product a b ≡ 1 → word_product a c ≡ 1 → b ≡ c

-- 2^64 is 2^32 - 1 and 2^96 is -1, which brings a product of two words below the modulus with no division
abbrev pub FoldsProduct : Type 0
FoldsProduct =
    (lo mid hi : ℕ) → lo < 2 ^ 64 → mid < 2 ^ 32 → hi < 2 ^ 32
    → (lo + 2 ^ 64 * mid + 2 ^ 96 * hi) % modulus ≡ (lo + (2 ^ 32 - 1) * mid + (modulus - hi)) % modulus
