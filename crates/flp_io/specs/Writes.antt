-- What writes do to the bytes that a sink has taken and to its room, beside std's word `Appends`, up to all that a call
-- says of the sink that it wrote a text to.
use Rattle.std.specs.Prelude.{Option, ◌≡◌, ℕ, ◌-◌, ◌<◌, ◌≤◌, List, length, take, ⊤, None, Some, Result, IfOk, IsOk, IsOkAnd, IsErr, OnOk}
use Rattle.std.specs.Io.KnownBytes.{Appends}
use Rattle.flp_io.specs.Faults.{Uses}

-- on `Ok(n)` at a piece with bytes, n is not 0
abbrev pub TakesSome : {E : Type 0} → Result ℕ E → List ℕ → Type 0
TakesSome result piece = IfOk result (λ n. 0 < length piece → 0 < n)

-- known bytes grow by a prefix of the text, which may be empty or all of it
pub record TakesPrefix (old new : Option (List ℕ)) (text : List ℕ) : Type 0 where
  pub count : ℕ
  pub grown : Appends old new (take count text)

-- a room is told, and it is at least this many bytes
abbrev pub HasRoom : Option ℕ → ℕ → Type 0
HasRoom None size = ⊥
HasRoom (Some room) size = size ≤ room

-- a told room falls by n
abbrev pub Spends : Option ℕ → Option ℕ → ℕ → Type 0
Spends None new n = ⊤
Spends (Some room) new n = new ≡ Some (room - n)

-- with room for the piece a write does not fail, and spends the n that it answers
abbrev pub WriteSpares : {E : Type 0} → Option ℕ → Option ℕ → Result ℕ E → ℕ → Type 0
WriteSpares old new result size = HasRoom old size → IsOkAnd result (λ n. Spends old new n)

-- with room for the piece it is written, and spends all its size
abbrev pub PutSpares : {T E : Type 0} → Option ℕ → Option ℕ → Result T E → ℕ → Type 0
PutSpares old new result size = HasRoom old size → IsOk result × Spends old new size

-- what a call did with the sink that it wrote a text to: at `Ok` it took the whole text, else a prefix of it, and the call
-- failed; a told room suffices; how its faults were counted, and whether it may be written to again
pub record WritesTo {K T E : Type 0} (taken : K → Option (List ℕ)) (faults : K → ℕ) (spare : K → Option ℕ) (ready : K → Type 0) (old new : K) (text : List ℕ) (result : Result T E) : Type 0 where
  pub whole : OnOk result (Appends (taken old) (taken new) text)
  pub front : TakesPrefix (taken old) (taken new) text
  pub room : PutSpares (spare old) (spare new) result (length text)
  pub uses : Uses faults ready old new (IsErr result) (IsOk result)
