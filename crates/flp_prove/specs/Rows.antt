-- Lists of words in one, of the same length each, and what is read across them.
use Rattle.std.specs.Prelude.{ℕ, ◌≡◌, ◌+◌, ◌*◌, ◌<◌, List, [], ◌∷◌, ◌++◌, length, map, get_or, slice_index}
use Rattle.std.specs.List.{range_with_len}

-- parts one after another
abbrev pub joined : List (List ℕ) → List ℕ
joined [] = []
joined (part ∷ more) = part ++ joined more

-- of so many parts of this length, one after another, the words at this place of each
abbrev pub across : (count size : ℕ) → List ℕ → ℕ → List ℕ
across count size words place = map (λ part. slice_index words (part * size + place)) (range_with_len 0 count)

-- all parts have this length
abbrev pub HaveLength : ℕ → List (List ℕ) → Type 0
HaveLength size parts = (k : ℕ) → k < length parts → length (get_or parts k []) ≡ size
