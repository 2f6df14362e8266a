-- A whole file of either format: what it is, or its first fault, and how much of it is read. From what its head says up.
use Rattle.std.specs.Prelude.{ℕ, ◌≡◌, ◌+◌, ◌⊎◌, List, Bool, Option, None, Some, IfSome, take, drop}
use Rattle.flp_syntax.specs.declared.syntax.Params.{Params}
use Rattle.flp_load.specs.declared.fault.CircuitFault.{CircuitFault}
use Rattle.flp_load.specs.Loaded.{IsLoaded}
use Rattle.flp_load.specs.Fault.{IsCircuitFault}
use Rattle.flp_report.specs.declared.fault.BatchFault.{BatchFault}
use Rattle.flp_report.specs.Head.{number_at}
use Rattle.flp_io.specs.Reads.{ConsumesAtMost}
use Rattle.flp_report.specs.Reads.{ConsumesWithin}
use Rattle.flp_batch.specs.declared.fault.EngineFault.{EngineFault}
use Rattle.flp_batch.specs.declared.fault.EngineFault.TheVariants.{Memory, Read, Write, Batch, Circuit}
use Rattle.flp_batch.specs.Setting.{Setting}
use Rattle.flp_batch.specs.JobSetting.{JobSetting}
use Rattle.flp_batch.specs.Format.{Format, batches, job_files, circuit_start, fault_of_head, SettingOf, circuit_in, FitsSetting, layout_fault, size_with, front_size}

-- the text of a file
abbrev pub text_in : Format → (bytes : List ℕ) → List ℕ
text_in format bytes = take (number_at 20 bytes) (drop (circuit_start format bytes) bytes)

-- the head of a file has no fault, its text is loaded as a circuit, and this is its setting
pub record HasSetting (format : Format) (bytes : List ℕ) (params : Option Params) (setting : SettingOf format) : Type 0 where
  pub head : fault_of_head format bytes ≡ None
  pub text : IsLoaded (text_in format bytes) params (circuit_in format setting)
  pub fits : FitsSetting format bytes params setting

-- a file is one of this format, and this is its setting
pub record IsFile (format : Format) (bytes : List ℕ) (params : Option Params) (setting : SettingOf format) : Type 0 where
  pub has : HasSetting format bytes params setting
  pub no_fault : layout_fault format setting bytes ≡ None

-- a batch, of which a party may be asked for
abbrev pub IsBatch : Option ℕ → (bytes : List ℕ) → Option Params → Setting → Type 0
IsBatch party bytes params setting = IsFile (batches party) bytes params setting

-- a job file, whose batch is to be written or not
abbrev pub IsJobFile : (writes : Bool) → (bytes : List ℕ) → JobSetting → Type 0
IsJobFile writes bytes setting = IsFile (job_files writes) bytes setting.params setting

-- ---- or its first fault

-- behind a head without a fault, the text has this fault
pub record IsTextFault (format : Format) (bytes : List ℕ) (fault : CircuitFault) : Type 0 where
  pub head : fault_of_head format bytes ≡ None
  pub text : IsCircuitFault (text_in format bytes) fault

-- behind a text that is loaded as a circuit, the file has this fault
pub record IsFaultBehind (format : Format) (bytes : List ℕ) (fault : BatchFault) : Type 0 where
  pub params : Option Params
  pub setting : SettingOf format
  pub has : HasSetting format bytes params setting
  pub is : layout_fault format setting bytes ≡ Some fault

-- the first fault of a file: that of its head; or else of its text; or else of what follows the text
abbrev pub IsFault : Format → (bytes : List ℕ) → EngineFault → Type 0
IsFault format bytes (Batch fault) = (fault_of_head format bytes ≡ Some fault) ⊎ IsFaultBehind format bytes fault
IsFault format bytes (Circuit fault) = IsTextFault format bytes fault
IsFault format bytes Memory = ⊥
IsFault format bytes Read = ⊥
IsFault format bytes Write = ⊥

-- ---- how much of it is read

-- of a file whose text is a circuit's, no more bytes are taken than its head gives, and one to see the end
pub record TakesFile (format : Format) (left left' : Option (List ℕ)) (bytes : List ℕ) : Type 0 where
  pub params : Option Params
  pub setting : SettingOf format
  pub has : HasSetting format bytes params setting
  pub few : ConsumesAtMost (size_with format setting bytes + 1) left left'

-- no more bytes are taken of a file than its head gives, and one to see the end
abbrev pub TakesFew : Format → Option (List ℕ) → Option (List ℕ) → Type 0
TakesFew format left left' = ConsumesWithin (front_size format) left left' ⊎ IfSome left (TakesFile format left left')
