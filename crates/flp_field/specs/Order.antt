-- The order of a word, and the generator 7. From the definition to the claims.
use Rattle.std.specs.Prelude.{ℕ, ◌≡◌, ◌≢◌, ◌+◌, ◌<◌}
use Rattle.flp_field.specs.Word.{modulus, IsWord, word_power}

-- n is the least positive exponent with which the power of x is 1
pub record HasOrder (x n : ℕ) : Type 0 where
  pub positive : 0 < n
  pub returns : word_power x n ≡ 1
  pub first : (k : ℕ) → 0 < k → k < n → word_power x k ≢ 1

-- 7 has order p - 1
abbrev pub SevenHasOrder : Type 0
SevenHasOrder = (n : ℕ) → n + 1 ≡ modulus → HasOrder 7 n

-- each word but 0 is a power of 7
abbrev pub SevenGenerates : Type 0
SevenGenerates = (x : ℕ) → 0 < x → IsWord x → (k : ℕ) × (k + 1 < modulus) × (word_power 7 k ≡ x)

-- each word but 0 to the power p - 1 is 1
abbrev pub FullPowerIsOne : Type 0
FullPowerIsOne = (x n : ℕ) → n + 1 ≡ modulus → 0 < x → IsWord x → word_power x n ≡ 1
