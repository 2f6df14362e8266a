-- Bytes cut into pieces of one size, and the order of nonces.
use Rattle.std.specs.Prelude.{ℕ, ◌*◌, zero, suc, Bool, List, [], ◌∷◌, Option, Some, None, if◌then◌else◌, ◌≡◌, All, length, take, drop}
use Rattle.std.specs.List.{concat}
use Rattle.std.specs.Ordering.{is_lt, nat_cmp}
use Rattle.std.specs.Cmp.Lexicographic.{slice_cmp}

-- the first n pieces of this size
abbrev pub pieces : ℕ → ℕ → List ℕ → List (List ℕ)
pieces size zero bytes = []
pieces size (suc n) bytes = take size bytes ∷ pieces size n (drop size bytes)

-- bytes are parts of one size, one after the other
pub record IsCut (size count : ℕ) (bytes : List ℕ) (parts : List (List ℕ)) : Type 0 where
  pub whole : length bytes ≡ count * size
  pub joined : concat parts ≡ bytes
  pub number : length parts ≡ count
  pub sizes : All (λ part. length part ≡ size) parts

-- a list of bytes stands in front of another
abbrev pub is_below : List ℕ → List ℕ → Bool
is_below first second = is_lt (slice_cmp nat_cmp first second)

-- the place of the first nonce that is not above the one before, where the first of these has this place
abbrev pub fall_after : ℕ → List ℕ → List (List ℕ) → Option ℕ
fall_after place before [] = None
fall_after place before (nonce ∷ rest) = if is_below before nonce then fall_after (suc place) nonce rest else Some place

-- the place, from 1, of the first nonce that is not above the one before
abbrev pub fall_in : List (List ℕ) → Option ℕ
fall_in [] = None
fall_in (nonce ∷ rest) = fall_after 1 nonce rest
