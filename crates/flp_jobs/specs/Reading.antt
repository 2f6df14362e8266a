-- What reading a job file gave.
use Rattle.std.specs.Prelude.{ℕ, ◌≡◌, ◌+◌, ◌≤◌, ◌⊎◌, List, Bool, Option, Some, None, IfSome, length}
use Rattle.std.specs.Io.KnownBytes.{Consumes, IsAtEnd}
use Rattle.flp_report.specs.declared.fault.BatchFault.{BatchFault}
use Rattle.flp_report.specs.declared.job_shape.JobShape.{JobShape}
use Rattle.flp_report.specs.declared.job.Job.{Job}
use Rattle.flp_report.specs.Reader.{place_of, shares_given, proofs_given, reports_left}
use Rattle.flp_report.specs.JobReader.{JobReader}
use Rattle.flp_report.specs.Job.{job_header_of, made_header, jobs_of, job_large_fault, jobs_fault, job_bad_word, word_fault, IsJobHead, IsJobInLimits}
use Rattle.flp_report.specs.JobParts.{jobs_shape, jobs_count, jobs_in, job_of, job_shape_of}
use Rattle.flp_load.specs.Loaded.{IsLoaded}
use Rattle.flp_batch.specs.JobSetting.{JobSetting, IsJobShapeBehind}
use Rattle.flp_batch.specs.File.{IsJobFile}
use Rattle.flp_jobs.specs.declared.file.JobFront.{JobFront}
use Rattle.flp_jobs.specs.declared.file.JobFile.{JobFile}
use Rattle.flp_jobs.specs.Rules.{JobText}
use Rattle.flp_jobs.specs.Setting.{IsSetting}

-- what the records of the jobs behind are made by
abbrev pub setting_behind : JobFront → JobSetting
setting_behind front = record { params = front.loaded.params; circuit = front.loaded.plan.circuit; shape = front.shape }

-- all that stands in front of the jobs was read, and this is what it says
pub record OpensJobs (written : Bool) (left left' : Option (List ℕ)) (front : JobFront) : Type 0 where
  pub bytes : List ℕ
  pub read : Consumes left left' bytes
  pub head : IsJobHead bytes front.header
  pub limits : IsJobInLimits front.header
  pub text : IsLoaded front.header.text front.loaded.params front.loaded.plan.circuit
  pub shape : IsJobShapeBehind written front.header front.loaded.params front.loaded.plan.circuit front.shape

-- the reader stands in front of the jobs
pub record IsAtJobs {S : Type 0} (reader : JobReader S) (front : JobFront) : Type 0 where
  pub place : place_of reader ≡ 28 + length front.header.text
  pub shares : front.shape.shares ≡ shares_given reader
  pub proofs : front.shape.proofs ≡ proofs_given reader
  pub jobs : reports_left reader ≡ front.header.jobs

-- behind a head up to this place, with so many jobs, the first fault is that a size is above its limit, or else one of the jobs
abbrev pub IsRefusedBehind : JobShape → ℕ → ℕ → Option (List ℕ) → BatchFault → Type 0
IsRefusedBehind shape place jobs left fault =
    (job_large_fault shape place jobs ≡ Some fault)
    ⊎ ((job_large_fault shape place jobs ≡ None) × IfSome left (λ rest. jobs_fault shape place jobs rest ≡ Some fault))

-- what the records are made by
abbrev pub setting_of : JobFile → JobSetting
setting_of file = record { params = file.loaded.params; circuit = file.loaded.plan.circuit; shape = file.shape }

-- a text that is made of its jobs
abbrev pub text_read : JobText → JobFile → List ℕ
text_read text file = text (setting_of file) file.header (jobs_in file.jobs)

-- the input was read to its end and is a job file, whose batch is written or not, and this is what it says
pub record Reads (written : Bool) (left left' : Option (List ℕ)) (file : JobFile) : Type 0 where
  pub bytes : List ℕ
  pub read : Consumes left left' bytes
  pub ended : IsAtEnd left'
  pub is_file : IsJobFile written bytes (setting_of file)
  pub header : made_header (job_header_of bytes) ≡ file.header
  pub jobs : jobs_of file.shape bytes ≡ jobs_in file.jobs

-- what holds of each file that was read
pub record IsWhole (file : JobFile) : Type 0 where
  pub setting : IsSetting (setting_of file)
  pub text : length file.header.text ≤ 65536
  pub shape : jobs_shape file.jobs ≡ file.shape
  pub count : jobs_count file.jobs ≡ file.header.reports
  pub words : word_fault file.shape 0 (jobs_in file.jobs) ≡ None

-- a job of a file
pub record IsJobOf (file : JobFile) (job : Job) : Type 0 where
  pub shape : job_shape_of job ≡ file.shape
  pub words : job_bad_word file.shape (job_of job) ≡ None
