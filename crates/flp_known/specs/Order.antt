-- The order of nonces, which is that of their bytes, and nonces that are added to a list in rising order.
use Rattle.std.specs.Prelude.{ℕ, List, Bool, fold}
use Rattle.std.specs.Ordering.{is_lt, nat_cmp}
use Rattle.std.specs.Cmp.Lexicographic.{slice_cmp}
use Rattle.std.specs.BTreeSet.{insert_key}

-- whether a nonce is below another
abbrev pub is_below : (nonce other : List ℕ) → Bool
is_below nonce other = is_lt (slice_cmp nat_cmp nonce other)

-- one nonce more, in front of the first that is above it, unless the list has it there
abbrev pub with_nonce : (nonces : List (List ℕ)) (nonce : List ℕ) → List (List ℕ)
with_nonce nonces nonce = insert_key (slice_cmp nat_cmp) nonces nonce

-- more of them, one after the other
abbrev pub with_nonces : (nonces more : List (List ℕ)) → List (List ℕ)
with_nonces nonces more = fold with_nonce nonces more
