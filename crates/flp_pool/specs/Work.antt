-- What the items of a work do to a state, one by one and list by list.
use Rattle.std.specs.Prelude.{◌≡◌, ℕ, ◌+◌, ◌≤◌, Option, Some, None, List, [], ◌∷◌, ◌++◌, length, All}

-- the rows that a work has for numbers, each beside its number
abbrev pub row_at : ℕ → Option (List ℕ) → List (ℕ × List ℕ)
row_at x None = []
row_at x (Some row) = (x, row) ∷ []

abbrev pub rows_of : (ℕ → Option (List ℕ)) → List ℕ → List (ℕ × List ℕ)
rows_of row_of [] = []
rows_of row_of (x ∷ xs) = row_at x (row_of x) ++ rows_of row_of xs

module _ {S : Type 0} (room : S → ℕ) (done : S → List ℕ) (right : S → Type 0) where
  -- the numbers xs were done in the state s, which left t
  pub record Did (s t : S) (xs : List ℕ) : Type 0 where
    pub grown : done t ≡ done s ++ xs
    pub spare : room t + length xs ≡ room s
    pub fits : right t

  -- in each state its list of numbers was done
  abbrev pub EachDid : List S → List S → List (List ℕ) → Type 0
  EachDid [] [] [] = Unit {0}
  EachDid (s ∷ before) (t ∷ after) (xs ∷ lists) = Did s t xs × EachDid before after lists
  EachDid _ _ _ = ⊥

module _ {S : Type 0} (room : S → ℕ) (right : S → Type 0) where
  -- each state is right and has room for n numbers
  abbrev pub Ready : ℕ → List S → Type 0
  Ready n states = All (λ s. right s × (n ≤ room s)) states
