-- What `deal` wrote, by the bytes of the whole batch.
use Rattle.std.specs.Prelude.{ℕ, ◌≤◌, ◌⊎◌, List, Option, Some, length, take}
use Rattle.std.specs.Io.KnownBytes.{Consumes, Appends, Keeps, IsAtEnd}
use Rattle.flp_syntax.specs.declared.syntax.Params.{Params}
use Rattle.flp_report.specs.Batch.{header_of, whole_records}
use Rattle.flp_report.specs.Reads.{ConsumesWithin}
use Rattle.flp_batch.specs.Cut.{settled}
use Rattle.flp_batch.specs.Format.{batches, newest_read, front_size}
use Rattle.flp_batch.specs.File.{HasSetting, IsBatch}
use Rattle.flp_batch.specs.Reply.{text_on, WritesSome}
use Rattle.flp_batch.specs.Setting.{Setting}
use Rattle.flp_party.specs.Share.{share_file}

-- the share file that is made of a batch of these bytes and this setting, with these of its records
abbrev pub file_of : (party : ℕ) → (bytes : List ℕ) → Setting → (records : List (List ℕ)) → List ℕ
file_of party bytes by records = share_file party (header_of bytes) by.shape by.claims records

-- the input was read to its end and is a batch, and the output grew by exactly the party's share file of it
pub record WritesShare (party : ℕ) (left left' taken taken' : Option (List ℕ)) : Type 0 where
  pub bytes : List ℕ
  pub params : Option Params
  pub setting : Setting
  pub read : Consumes left left' bytes
  pub ended : IsAtEnd left'
  pub is_batch : IsBatch (Some party) bytes params setting
  pub written : Appends taken taken' (text_on (Some party) (file_of party bytes) bytes setting)

-- some bytes were read, and nothing was written, or a prefix of the share file of their whole records
pub record StopsShare (party : ℕ) (left left' taken taken' : Option (List ℕ)) : Type 0 where
  pub bytes : List ℕ
  pub read : Consumes left left' bytes
  pub written : Keeps taken taken' ⊎ WritesSome (Some party) (file_of party bytes) bytes taken taken'

-- bytes begin with a head without a fault and a circuit's text, and the output grew by exactly the share file of the first of
-- their whole records, among them all settled ones
pub record SettlesSomeShare (party : ℕ) (left left' taken taken' : Option (List ℕ)) : Type 0 where
  pub bytes : List ℕ
  pub params : Option Params
  pub setting : Setting
  pub read : Consumes left left' bytes
  pub begins : HasSetting (batches (Some party)) bytes params setting
  pub count : ℕ
  pub least : settled setting.shape (length (whole_records newest_read (Some party) setting.shape bytes)) ≤ count
  pub written : Appends taken taken' (file_of party bytes setting (take count (whole_records newest_read (Some party) setting.shape bytes)))

-- where the input has a fault: nothing was written, and no byte behind the old claims was read; or exactly the share file of
-- records that came whole was written
abbrev pub SettlesShare : (party : ℕ) → (left left' taken taken' : Option (List ℕ)) → Type 0
SettlesShare party left left' taken taken' =
    (Keeps taken taken' × ConsumesWithin (front_size (batches (Some party))) left left') ⊎ SettlesSomeShare party left left' taken taken'
