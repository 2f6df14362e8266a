-- How much a bound leaves.
use Rattle.std.specs.Prelude.{ℕ, Option, None, Some, Bool, false, nat_le}

-- whether so many more are allowed: none where the bound was passed before
abbrev pub leaves : Option ℕ → ℕ → Bool
leaves None more = false
leaves (Some left) more = nat_le more left
