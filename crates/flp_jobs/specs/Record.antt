-- The record that is made of a job, and the batch that is made of all jobs. From a proof up.
use Rattle.std.specs.Prelude.{ℕ, List, None, ◌++◌, map, take}
use Rattle.std.specs.List.{flat_map, concat}
use Rattle.flp_meaning.specs.Proof.{honest_proof}
use Rattle.flp_share.specs.Shares.{shares_of}
use Rattle.flp_report.specs.declared.job_shape.JobShape.{JobShape}
use Rattle.flp_report.specs.Layout.{head_bytes, record_bytes}
use Rattle.flp_batch.specs.JobSetting.{JobSetting}
use Rattle.flp_jobs.specs.Rules.{JobText, text_on}
use Rattle.flp_jobs.specs.Encoding.{given_words, job_seeds, job_joint, job_query, job_encoding, job_proofs}

-- the honest proof of this number
abbrev pub job_proof : JobSetting → (job : List ℕ) → (proof : ℕ) → List ℕ
job_proof by job proof = honest_proof by.circuit (job_encoding by job) (job_joint by.shape job proof) (job_seeds by.shape job proof)

-- what is shared: the encoding and then the proofs
abbrev pub unshared_words : JobSetting → (job : List ℕ) → List ℕ
unshared_words by job = job_encoding by job ++ flat_map (job_proof by job) (job_proofs by.shape)

-- what is not: the joint and query words of a proof
abbrev pub own_words : JobShape → (job : List ℕ) → (proof : ℕ) → List ℕ
own_words shape job proof = job_joint shape job proof ++ job_query shape job proof

-- the words of the record: the shares, of which those from 1 on are given and share 0 makes the sum; and then each proof's own words
abbrev pub made_words : JobSetting → (job : List ℕ) → List ℕ
made_words by job =
    shares_of by.shape.shares (unshared_words by job) (given_words by.shape job)
    ++ flat_map (own_words by.shape job) (job_proofs by.shape)

-- the record, with the nonce of the job
abbrev pub record_made : JobSetting → (job : List ℕ) → List ℕ
record_made by job = record_bytes (take 16 job) None (made_words by job)

-- the batch of these jobs, with this head
abbrev pub batch_text : JobText
batch_text by header jobs = head_bytes header ++ concat (map (record_made by) jobs)

-- the batch that is made of a job file
abbrev pub batch_made : JobSetting → (bytes : List ℕ) → List ℕ
batch_made by bytes = text_on batch_text by bytes
