-- What a command wrote of a batch, by the bytes of the whole file. `text` and `lines` are what it makes of
-- the setting and the whole records.
use Rattle.std.specs.Prelude.{ℕ, ◌≤◌, ◌⊎◌, Option, List, length, take}
use Rattle.std.specs.Io.KnownBytes.{Consumes, Appends, Keeps, IsAtEnd}
use Rattle.flp_io.specs.Writes.{TakesPrefix}
use Rattle.flp_syntax.specs.declared.syntax.Params.{Params}
use Rattle.flp_report.specs.Batch.{whole_records}
use Rattle.flp_report.specs.Reads.{ConsumesWithin}
use Rattle.flp_batch.specs.Cut.{settled}
use Rattle.flp_batch.specs.Format.{batches, newest_read, front_size}
use Rattle.flp_batch.specs.File.{HasSetting, IsBatch}
use Rattle.flp_batch.specs.Setting.{Setting}

-- what a command makes of a file with this setting
abbrev pub text_on : Option ℕ → (Setting → List (List ℕ) → List ℕ) → List ℕ → Setting → List ℕ
text_on party text bytes setting = text setting (whole_records newest_read party setting.shape bytes)

-- the input was read to its end and is a batch, and this was written of its text
pub record WritesOf (writes : (taken taken' : Option (List ℕ)) → List ℕ → Type 0) (party : Option ℕ) (text : Setting → List (List ℕ) → List ℕ) (left left' taken taken' : Option (List ℕ)) : Type 0 where
  pub bytes : List ℕ
  pub params : Option Params
  pub setting : Setting
  pub read : Consumes left left' bytes
  pub ended : IsAtEnd left'
  pub is_batch : IsBatch party bytes params setting
  pub written : writes taken taken' (text_on party text bytes setting)

-- the output grew by exactly its text
abbrev pub WritesText : (party : Option ℕ) (text : Setting → List (List ℕ) → List ℕ) (left left' taken taken' : Option (List ℕ)) → Type 0
WritesText = WritesOf Appends

-- it grew by a prefix of its text
abbrev pub StopsInText : (party : Option ℕ) (text : Setting → List (List ℕ) → List ℕ) (left left' taken taken' : Option (List ℕ)) → Type 0
StopsInText = WritesOf TakesPrefix

-- bytes begin with a head without a fault and a circuit's text, and the output grew by a prefix of the
-- lines of their whole records
pub record WritesSome (party : Option ℕ) (lines : Setting → List (List ℕ) → List ℕ) (bytes : List ℕ) (taken taken' : Option (List ℕ)) : Type 0 where
  pub params : Option Params
  pub setting : Setting
  pub begins : HasSetting (batches party) bytes params setting
  pub written : TakesPrefix taken taken' (text_on party lines bytes setting)

-- some bytes were read, and nothing was written, or a prefix of the lines of their whole records
pub record StopsEarly (party : Option ℕ) (lines : Setting → List (List ℕ) → List ℕ) (left left' taken taken' : Option (List ℕ)) : Type 0 where
  pub bytes : List ℕ
  pub read : Consumes left left' bytes
  pub written : Keeps taken taken' ⊎ WritesSome party lines bytes taken taken'

-- bytes begin with a head without a fault and a circuit's text, and the output grew by exactly the lines of the first of their
-- whole records, among them all settled ones
pub record SettlesSome (party : Option ℕ) (lines : Setting → List (List ℕ) → List ℕ) (left left' taken taken' : Option (List ℕ)) : Type 0 where
  pub bytes : List ℕ
  pub params : Option Params
  pub setting : Setting
  pub read : Consumes left left' bytes
  pub begins : HasSetting (batches party) bytes params setting
  pub count : ℕ
  pub least : settled setting.shape (length (whole_records newest_read party setting.shape bytes)) ≤ count
  pub written : Appends taken taken' (lines setting (take count (whole_records newest_read party setting.shape bytes)))

-- where the input has a fault: nothing was written, and no byte behind the old claims was read; or exactly the lines of records
-- that came whole were written
abbrev pub SettlesEarly : Option ℕ → (lines : Setting → List (List ℕ) → List ℕ) → (left left' taken taken' : Option (List ℕ)) → Type 0
SettlesEarly party lines left left' taken taken' =
    (Keeps taken taken' × ConsumesWithin (front_size (batches party)) left left') ⊎ SettlesSome party lines left left' taken taken'
