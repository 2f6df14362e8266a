-- What is made is a batch of honest reports. From one record up to the file.
use Rattle.std.specs.Prelude.{ℕ, ◌≡◌, ◌<◌, Bool, List, [], Option, None, IfSome, map}
use Rattle.std.specs.List.{All}
use Rattle.flp_meaning.specs.Circuit.{IsValid}
use Rattle.flp_report.specs.Record.{words_in}
use Rattle.flp_report.specs.Words.{bad_word_in}
use Rattle.flp_report.specs.Job.{jobs_of}
use Rattle.flp_report.specs.Batch.{whole_records}
use Rattle.flp_worker.specs.Parts.{joint_words, query_words, unshared_encoding, unshared_proof}
use Rattle.flp_verdict.specs.Laws.{IsHonest}
use Rattle.flp_batch.specs.Setting.{Setting}
use Rattle.flp_batch.specs.File.{IsBatch, IsJobFile}
use Rattle.flp_jobs.specs.declared.fault.ProveFault.{ProveFault}
use Rattle.flp_batch.specs.Format.{newest_read}
use Rattle.flp_batch.specs.JobSetting.{JobSetting, made_shape}
use Rattle.flp_jobs.specs.Encoding.{job_joint, job_query, job_encoding}
use Rattle.flp_jobs.specs.Record.{job_proof, record_made, batch_made}
use Rattle.flp_jobs.specs.declared.rules.Rules.{Rules}
use Rattle.flp_jobs.specs.Rules.{IsGoodFile, IsRefusedBy}
use Rattle.flp_jobs.specs.Reply.{IsProvable}

-- ---- a file has one answer, by whichever rules

abbrev pub OneSetting : Type 0
OneSetting = (written : Bool) (bytes : List ℕ) (setting other : JobSetting) → IsJobFile written bytes setting → IsJobFile written bytes other → setting ≡ other

abbrev pub OneRefusal : Type 0
OneRefusal = (rules : Rules) (bytes : List ℕ) (fault other : ProveFault) → IsRefusedBy rules bytes fault → IsRefusedBy rules bytes other → fault ≡ other

abbrev pub NeverBoth : Type 0
NeverBoth = (rules : Rules) (bytes : List ℕ) (setting : JobSetting) (fault : ProveFault) → IsGoodFile rules bytes setting → IsRefusedBy rules bytes fault → ⊥

-- ---- the batch is read again

-- what the records of the batch are judged by
abbrev pub batch_setting : JobSetting → Setting
batch_setting by = record { params = by.params; circuit = by.circuit; shape = made_shape by; claims = [] }

-- the batch that is made of a job file is one, for each party that has a share, with the records that were made
pub record ReadsBack (party : Option ℕ) (by : JobSetting) (bytes : List ℕ) : Type 0 where
  pub is_batch : IsBatch party (batch_made by bytes) by.params (batch_setting by)
  pub records : whole_records newest_read party (made_shape by) (batch_made by bytes) ≡ map (record_made by) (jobs_of by.shape bytes)

abbrev pub BatchesReadBack : Type 0
BatchesReadBack =
    (party : Option ℕ) (bytes : List ℕ) (by : JobSetting) → IsProvable bytes by
    → IfSome party (λ p. p < by.shape.shares) → ReadsBack party by bytes

-- ---- its records are honest

-- the proof of this number: with the joint and query words of the job, under which the job's encoding is valid, it is
-- the honest proof for the job's seeds
pub record KeepsProof (by : JobSetting) (job words : List ℕ) (proof : ℕ) : Type 0 where
  pub joint : joint_words (made_shape by) words proof ≡ job_joint by.shape job proof
  pub query : query_words (made_shape by) words proof ≡ job_query by.shape job proof
  pub valid : IsValid by.circuit (job_encoding by job) (job_joint by.shape job proof)
  pub honest : unshared_proof (made_shape by) words proof ≡ job_proof by job proof

-- these are the words of an honest record of the job: words of the field, whose shares sum up to the job's encoding and to honest proofs
pub record KeepsJob (by : JobSetting) (job words : List ℕ) : Type 0 where
  pub good : bad_word_in words ≡ None
  pub encoding : unshared_encoding (made_shape by) words ≡ job_encoding by job
  pub proofs : (proof : ℕ) → proof < by.shape.proofs → KeepsProof by job words proof

-- the record that is made of a job keeps it, and is honest
pub record IsHonestlyMade (by : JobSetting) (job : List ℕ) : Type 0 where
  pub keeps : KeepsJob by job (words_in (made_shape by) (record_made by job))
  pub honest : IsHonest by.circuit (made_shape by) (record_made by job)

abbrev pub RecordsAreHonest : Type 0
RecordsAreHonest =
    (bytes : List ℕ) (by : JobSetting) → IsProvable bytes by → All (IsHonestlyMade by) (jobs_of by.shape bytes)
