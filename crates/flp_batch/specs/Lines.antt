-- What a command writes of records, each line made behind the records before it.
use Rattle.std.specs.Prelude.{ℕ, List, [], ◌∷◌, ◌++◌}

-- the lines of records behind some earlier ones, where a record's line follows from those before it
abbrev pub lines_from : (List (List ℕ) → List ℕ → List ℕ) → List (List ℕ) → List (List ℕ) → List ℕ
lines_from line earlier [] = []
lines_from line earlier (given ∷ records) = line earlier given ++ lines_from line (earlier ++ given ∷ []) records

-- the lines of all records
abbrev pub lines_of : (List (List ℕ) → List ℕ → List ℕ) → List (List ℕ) → List ℕ
lines_of line records = lines_from line [] records

-- the line of a record behind earlier ones, and the whole text of all records, which begins with their lines
pub record Wording : Type 0 where
  pub line : (earlier : List (List ℕ)) → (given : List ℕ) → List ℕ
  pub text : (records : List (List ℕ)) → List ℕ
