-- The lengths that a transform takes.
use Rattle.std.specs.Prelude.{ℕ, ◌≡◌, ◌^◌, ◌≤◌}

-- a power of two up to 1,048,576
abbrev pub IsTransformSize : ℕ → Type 0
IsTransformSize size = (log : ℕ) × (log ≤ 20) × (size ≡ 2 ^ log)
