-- Numbers and their bits, lowest first.
use Rattle.std.specs.Prelude.{ℕ, zero, suc, ◌-◌, ◌/◌, ◌%◌, ◌^◌, ◌<◌, ◌≤◌, nat_lt, if◌then◌else◌, List, [], ◌∷◌}

-- the least exponent, from this one on, whose power of two is above n, or the last of so many
abbrev pub exponent_above : ℕ → ℕ → ℕ → ℕ
exponent_above n exponent zero = exponent
exponent_above n exponent (suc more) = if nat_lt n (2 ^ exponent) then exponent else exponent_above n (suc exponent) more

-- the bit length of n: the least exponent whose power of two is above n; n itself is one such
unfoldable pub bit_length : ℕ → ℕ
bit_length n = exponent_above n 0 n

abbrev pub IsBitLength : ℕ → ℕ → Type 0
IsBitLength n length = (n < 2 ^ length) × ((exponent : ℕ) → n < 2 ^ exponent → length ≤ exponent)

-- what has to be added to n to reach the greatest number of its bit length
unfoldable pub headroom : ℕ → ℕ
headroom n = 2 ^ bit_length n - 1 - n

-- so many bits of n, lowest first
abbrev pub bits_of : ℕ → ℕ → List ℕ
bits_of zero n = []
bits_of (suc count) n = n % 2 ∷ bits_of count (n / 2)
