-- What putting a text through a block did with it and with the sink.
use Rattle.std.specs.Prelude.{ℕ, List, ◌++◌, Option, Result, OnOk, IsErr, IsOk}
use Rattle.flp_io.specs.Block.{Passes}
use Rattle.flp_io.specs.Faults.{Uses}
use Rattle.flp_io.specs.Writes.{TakesPrefix}

-- at `Ok` the text is behind what was held, some of both written; else a prefix of both was written, and the sink failed
pub record Puts {K T E : Type 0} (taken : K → Option (List ℕ)) (faults : K → ℕ) (ready : K → Type 0) (old new : K) (held held' text : List ℕ) (result : Result T E) : Type 0 where
  pub passes : OnOk result (Passes (taken old) held text (taken new) held')
  pub front : TakesPrefix (taken old) (taken new) (held ++ text)
  pub uses : Uses faults ready old new (IsErr result) (IsOk result)
