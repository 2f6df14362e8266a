-- What reads do to the bytes that a source has left, beside std's words `Consumes` and `IsAtEnd`, up to all that a call
-- says of the source that it read from.
use Rattle.std.specs.Prelude.{Option, ℕ, ◌<◌, ◌≤◌, List, length, take, Result, IsOkAnd}
use Rattle.std.specs.Io.KnownBytes.{Consumes}
use Rattle.flp_io.specs.Faults.{Uses}

-- known bytes lose some of their front
pub record ConsumesSome (old new : Option (List ℕ)) : Type 0 where
  pub bytes : List ℕ
  pub gone : Consumes old new bytes

-- known bytes lose some of their front, and no more than this many
pub record ConsumesAtMost (limit : ℕ) (old new : Option (List ℕ)) : Type 0 where
  pub bytes : List ℕ
  pub few : length bytes ≤ limit
  pub gone : Consumes old new bytes

-- known bytes lose some of their front, and fewer than this many
pub record ConsumesLess (limit : ℕ) (old new : Option (List ℕ)) : Type 0 where
  pub bytes : List ℕ
  pub less : length bytes < limit
  pub gone : Consumes old new bytes

-- known bytes lose some of their front, which stands at the front of the buffer
pub record ConsumesPrefix (buf : List ℕ) (old new : Option (List ℕ)) : Type 0 where
  pub count : ℕ
  pub gone : Consumes old new (take count buf)

-- `read(buf)` gave a byte, or had no room for one
abbrev pub ReadsOn : {E : Type 0} → Result ℕ E → List ℕ → Type 0
ReadsOn result buf = IsOkAnd result (λ n. 0 < length buf → 0 < n)

-- the buffer was read full
abbrev pub ReadsFull : {E : Type 0} → Result ℕ E → List ℕ → Type 0
ReadsFull result buf = IsOkAnd result (λ n. length buf ≤ n)

-- what a call did with the source that it read from: the known bytes that it took, how its faults were counted, and
-- whether it may be read again
pub record ReadsFrom {S : Type 0} (left : S → Option (List ℕ)) (faults : S → ℕ) (ready : S → Type 0) (old new : S) (takes : (old new : Option (List ℕ)) → Type 0) (failed went_on : Type 0) : Type 0 where
  pub bytes : takes (left old) (left new)
  pub uses : Uses faults ready old new failed went_on
