-- The roots of unity whose order is a power of two, and the domain of such a size. From the root up to the claims.
use Rattle.std.specs.Prelude.{ℕ, ◌≡◌, ◌≢◌, ◌*◌, ◌/◌, ◌%◌, ◌^◌, ◌≤◌, ◌↔◌, List, map, sum, Contains, AllPairs}
use Rattle.std.specs.List.{range_with_len}
use Rattle.flp_field.specs.Word.{modulus, IsWord, word_power}
use Rattle.flp_field.specs.Order.{HasOrder}

-- The root of unity of this size, a power of two up to 2^32: the power of 7^4294967295, which has order 2^32,
-- with the exponent 2^32 / size. A proof opens it at a variable only: with a numeral the power of 7 would be computed
unfoldable pub alpha : ℕ → ℕ
alpha size = word_power 7 (4294967295 * (2 ^ 32 / size))

-- the first powers of a word, from the power 0 on
abbrev pub powers_of : ℕ → ℕ → List ℕ
powers_of x count = map (λ k. word_power x k) (range_with_len 0 count)

-- the domain of this size
abbrev pub domain : ℕ → List ℕ
domain size = powers_of (alpha size) size

-- the root of unity of size 2^log has order 2^log
abbrev pub RootsHaveOrder : Type 0
RootsHaveOrder = (log : ℕ) → log ≤ 32 → HasOrder (alpha (2 ^ log)) (2 ^ log)

-- a word lies in the domain of a size exactly where its power with that exponent is 1
abbrev pub DomainIsRoots : Type 0
DomainIsRoots =
    (log t : ℕ) → log ≤ 32 → IsWord t → Contains (domain (2 ^ log)) t ↔ (word_power t (2 ^ log) ≡ 1)

-- the first powers of a word, as many as its order, differ pairwise
abbrev pub PowersDiffer : Type 0
PowersDiffer = (x n : ℕ) → HasOrder x n → AllPairs (λ s t. s ≢ t) (powers_of x n)

-- where the power of a word with the exponent n is 1, the sum of its first n powers is 0, unless the word is 1
abbrev pub PowersSumToZero : Type 0
PowersSumToZero = (x n : ℕ) → IsWord x → x ≢ 1 → word_power x n ≡ 1 → sum (powers_of x n) % modulus ≡ 0

-- the sum of n powers of 1 is n
abbrev pub OnesSumToCount : Type 0
OnesSumToCount = (n : ℕ) → sum (powers_of 1 n) ≡ n
