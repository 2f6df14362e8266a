-- What a command makes of a job file, by its rules. From one file up to how the command ended.
use Rattle.std.specs.Prelude.{ℕ, ◌≡◌, ◌≤◌, List, Option, Some, None, Result, Err, IfErr, IfSome}
use Rattle.std.specs.Io.KnownBytes.{Consumes, IsAtEnd}
use Rattle.flp_io.specs.Faults.{Rose}
use Rattle.flp_report.specs.declared.header.Header.{Header}
use Rattle.flp_report.specs.Job.{job_header_of, made_header, jobs_of}
use Rattle.flp_batch.specs.declared.fault.EngineFault.TheVariants.{Read, Write}
use Rattle.flp_batch.specs.JobSetting.{JobSetting}
use Rattle.flp_batch.specs.Format.{job_files}
use Rattle.flp_batch.specs.File.{IsJobFile, IsFault, TakesFew}
use Rattle.flp_jobs.specs.declared.fault.PlaceFault.{PlaceFault}
use Rattle.flp_jobs.specs.declared.fault.ProveFault.{ProveFault}
use Rattle.flp_jobs.specs.declared.fault.ProveFault.TheVariants.{File, Place}
use Rattle.flp_jobs.specs.declared.rules.Rules.{Rules}
use Rattle.flp_jobs.specs.Fault.{IfJobs}
use Rattle.flp_jobs.specs.Place.{bad_place}

-- ---- a file

-- it is a job file without a bad place, and this is the setting of its jobs
pub record IsGoodFile (rules : Rules) (bytes : List ℕ) (setting : JobSetting) : Type 0 where
  pub is_file : IsJobFile rules.written bytes setting
  pub all_good : bad_place rules.joints setting (jobs_of setting.shape bytes) ≡ None

-- it is a job file, and this is its least bad place
pub record IsBadPlace (rules : Rules) (bytes : List ℕ) (place : ℕ) (fault : PlaceFault) : Type 0 where
  pub setting : JobSetting
  pub is_file : IsJobFile rules.written bytes setting
  pub is : bad_place rules.joints setting (jobs_of setting.shape bytes) ≡ Some (place, fault)

-- why it is refused: by its first fault, or else by its least bad place
abbrev pub IsRefusedBy : Rules → List ℕ → ProveFault → Type 0
IsRefusedBy rules bytes (File fault) = IsFault (job_files rules.written) bytes fault
IsRefusedBy rules bytes (Place place fault) = IsBadPlace rules bytes place fault

-- ---- what is made of it

-- a text that is made of jobs, by their setting and the head of the batch that they make
abbrev pub JobText : Type 0
JobText = JobSetting → Header → (jobs : List (List ℕ)) → List ℕ

-- that of a file with this setting
abbrev pub text_on : JobText → JobSetting → (bytes : List ℕ) → List ℕ
text_on text setting bytes = text setting (made_header (job_header_of bytes)) (jobs_of setting.shape bytes)

-- the input was read to its end and is a job file without a bad place, and this holds of its text
pub record MakesText (rules : Rules) (text : JobText) (Written : List ℕ → Type 0) (left left' : Option (List ℕ)) : Type 0 where
  pub bytes : List ℕ
  pub setting : JobSetting
  pub read : Consumes left left' bytes
  pub ended : IsAtEnd left'
  pub good : IsGoodFile rules bytes setting
  pub written : Written (text_on text setting bytes)

-- how a command ended, whatever it answers: what it says of the input is true, no more bytes are taken than the head gives, and a
-- call that failed is the cause of the answer that says so
pub record JobsEnd {T : Type 0} (rules : Rules) (left left' : Option (List ℕ)) (reads reads' writes writes' : ℕ) (result : Result T ProveFault) : Type 0 where
  pub fault : IfErr result (λ fault. IfJobs fault (λ f. IfSome left (λ bytes. IsRefusedBy rules bytes f)))
  pub few : TakesFew (job_files rules.written) left left'
  pub read : result ≡ Err (File Read) → Rose reads reads'
  pub write : result ≡ Err (File Write) → Rose writes writes'
  pub later_in : reads ≤ reads'
  pub later_out : writes ≤ writes'
