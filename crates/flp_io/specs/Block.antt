-- What a block does with the pieces that it is given.
use Rattle.std.specs.Prelude.{Option, ◌≡◌, ℕ, List, ◌++◌}
use Rattle.std.specs.Io.KnownBytes.{Appends}

-- of what was held and then a piece, some front went out to the sink, and the rest is held
pub record Passes (taken : Option (List ℕ)) (held piece : List ℕ) (taken' : Option (List ℕ)) (held' : List ℕ) : Type 0 where
  pub out : List ℕ
  pub written : Appends taken taken' out
  pub split : held ++ piece ≡ out ++ held'

-- two pushes are one of the pieces joined
abbrev pub PushesJoin : Type 0
PushesJoin =
    (taken taken' taken'' : Option (List ℕ)) (held held' held'' piece more : List ℕ) → Passes taken held piece taken' held'
    → Passes taken' held' more taken'' held'' → Passes taken held (piece ++ more) taken'' held''

-- a push, and then what is held written, is all written
abbrev pub FlushEnds : Type 0
FlushEnds =
    (taken taken' taken'' : Option (List ℕ)) (held held' piece : List ℕ) → Passes taken held piece taken' held'
    → Appends taken' taken'' held' → Appends taken taken'' (held ++ piece)
