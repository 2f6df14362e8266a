-- The levels of the fast transform, for the contracts of its parts: the root that a level takes, and the order in
-- which the last level leaves the values.
use Rattle.std.specs.Prelude.{ℕ, suc, zero, ◌≡◌, ◌+◌, ◌-◌, ◌*◌, ◌/◌, ◌%◌, ◌^◌, ◌<◌}
use Rattle.flp_field.specs.Word.{modulus, word_power}

-- the power of the root with half of 2^log as its exponent is -1
abbrev pub HasHalfTurn : ℕ → ℕ → Type 0
HasHalfTurn root log = 0 < log → word_power root (2 ^ (log - 1)) ≡ modulus - 1

-- the number whose log binary digits are those of k, in reverse
abbrev pub reversed : ℕ → ℕ → ℕ
reversed zero k = 0
reversed (suc log) k = k % 2 * 2 ^ log + reversed log (k / 2)
