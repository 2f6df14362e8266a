-- Sums that grow by a list at a time.
use Rattle.std.specs.Prelude.{ℕ, ◌≡◌, List, [], ◌∷◌, ◌++◌, length}
use Rattle.flp_field.specs.Sums.{sum_of_lists}

-- whatever lists the old words are the sum of, the new ones are the sum of these and of one more
abbrev pub AddsList : (words old new : List ℕ) → Type 0
AddsList words old new =
    (lists : List (List ℕ)) → old ≡ sum_of_lists (length old) lists → new ≡ sum_of_lists (length old) (lists ++ words ∷ [])
