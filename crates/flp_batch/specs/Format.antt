-- The two formats of files, and what each has of its own.
use Rattle.std.specs.Prelude.{ℕ, ◌≡◌, List, Bool, Option, None}
use Rattle.flp_syntax.specs.declared.syntax.Params.{Params}
use Rattle.flp_syntax.specs.Tree.{Program}
use Rattle.flp_report.specs.declared.fault.BatchFault.{BatchFault}
use Rattle.flp_report.specs.Head.{text_end, start_fault, stop_of, head_fault}
use Rattle.flp_report.specs.Batch as batch
use Rattle.flp_report.specs.Job as job
use Rattle.flp_batch.specs.Setting.{Setting, IsShapeBehind}
use Rattle.flp_batch.specs.JobSetting.{JobSetting, IsJobShapeBehind}

-- a batch, of which a party may be asked for, or a job file, of which the batch that it makes may be written or not
pub data Format : Type 0 where
  batches : (party : Option ℕ) → Format
  job_files : (writes : Bool) → Format

-- ---- how a file begins

-- the newest version of a batch that is read
abbrev pub newest_read : ℕ
newest_read = 2

-- where its text begins
abbrev pub circuit_start : Format → (bytes : List ℕ) → ℕ
circuit_start (batches party) bytes = batch.text_start bytes
circuit_start (job_files writes) bytes = 28

-- its first fault up to the end of its text
abbrev pub fault_of_head : Format → (bytes : List ℕ) → Option BatchFault
fault_of_head (batches party) bytes = batch.batch_head_fault newest_read party bytes
fault_of_head (job_files writes) bytes = head_fault job.job_letters 28 None bytes

-- ---- what stands behind the text

-- what records or jobs are read by
abbrev pub SettingOf : Format → Type 0
SettingOf (batches party) = Setting
SettingOf (job_files writes) = JobSetting

abbrev pub circuit_in : (format : Format) → SettingOf format → Program
circuit_in (batches party) by = by.circuit
circuit_in (job_files writes) by = by.circuit

-- the setting of a batch of these bytes, whose text is loaded with these parameters as this circuit
pub record FitsBatch (bytes : List ℕ) (params : Option Params) (by : Setting) : Type 0 where
  pub params_are : by.params ≡ params
  pub shape : IsShapeBehind (batch.header_of bytes) by.circuit by.shape
  pub claims : batch.claims_of bytes ≡ by.claims

-- the setting of a job file of these bytes, whose text is loaded with these parameters as this circuit
pub record FitsJobs (writes : Bool) (bytes : List ℕ) (params : Option Params) (by : JobSetting) : Type 0 where
  pub params_are : by.params ≡ params
  pub shape : IsJobShapeBehind writes (job.job_header_of bytes) params by.circuit by.shape

-- the setting of a file of these bytes, whose text is loaded with these parameters
abbrev pub FitsSetting : (format : Format) → (bytes : List ℕ) → Option Params → SettingOf format → Type 0
FitsSetting (batches party) bytes params by = FitsBatch bytes params by
FitsSetting (job_files writes) bytes params by = FitsJobs writes bytes params by

-- the first fault of a file of this setting, the circuit's own fault aside. A job file whose batch is not written may make one of any size
abbrev pub layout_fault : (format : Format) → SettingOf format → (bytes : List ℕ) → Option BatchFault
layout_fault (batches party) by bytes = batch.fault_of newest_read party by.shape bytes
layout_fault (job_files writes) by bytes = job.job_fault_of by.shape bytes

-- the size that the head gives to a file of this setting
abbrev pub size_with : (format : Format) → SettingOf format → (bytes : List ℕ) → ℕ
size_with (batches party) by bytes = batch.file_size by.shape bytes
size_with (job_files writes) by bytes = job.job_file_size by.shape bytes

-- the most bytes that are taken where no setting is known: those in front of the text where these have a fault, or else up to
-- where the old claims of a batch end, and the text of a job file
abbrev pub front_size : Format → (bytes : List ℕ) → ℕ
front_size (batches party) bytes = batch.batch_stop newest_read party (batch.claims_end bytes) bytes
front_size (job_files writes) bytes = stop_of 28 (text_end 28 bytes) (start_fault job.job_letters 28 1 None bytes)
