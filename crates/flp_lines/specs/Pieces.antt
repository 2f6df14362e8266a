-- The pieces of which lines are made.
use Rattle.std.specs.Prelude.{ℕ, List, ◌++◌, codes, decimal}

-- words and a number
abbrev pub numbered : List ℕ → ℕ → List ℕ
numbered words number = words ++ decimal number

-- words, a name and a number
abbrev pub named : List ℕ → List ℕ → ℕ → List ℕ
named words name number = words ++ name ++ numbered (codes " ") number

-- words and two numbers
abbrev pub paired : List ℕ → ℕ → ℕ → List ℕ
paired words first second = numbered words first ++ numbered (codes " ") second
