-- What `hide` prints of jobs, from what is told of one proof up to all lines.
use Rattle.std.specs.Prelude.{ℕ, ◌++◌, List, [], ◌∷◌, Option, Some, None, take, codes, decimal}
use Rattle.std.specs.List.{flat_map}
use Rattle.flp_meaning.specs.Verifier.{gadget_in_domain}
use Rattle.flp_hide.specs.Wires.{reseeded}
use Rattle.flp_verdict.specs.Text.{line_with, spaced}
use Rattle.flp_batch.specs.JobSetting.{JobSetting}
use Rattle.flp_jobs.specs.Encoding.{job_joint, job_query, job_seeds, job_encoding, job_proofs}
use Rattle.flp_jobs.specs.Rules.{JobText}

-- the seeds for which the proof of a number for a job's encoding has the wire values that it has for the first job's, with the first
-- job's seeds, joint and query words
abbrev pub matched_seeds : JobSetting → (first job : List ℕ) → (proof : ℕ) → List ℕ
matched_seeds by first job proof =
    reseeded by.circuit (job_encoding by first) (job_encoding by job)
    (job_joint by.shape first proof) (job_query by.shape first proof) (job_seeds by.shape first proof)

-- what is told of a proof: its seeds, or, where a query point lies in the domain of its gadget, the least such gadget
abbrev pub told : Option ℕ → (seeds : List ℕ) → List ℕ
told None seeds = codes " seeds" ++ spaced seeds
told (Some gadget) seeds = codes " domain " ++ decimal gadget

-- the number of a proof, and what is told of it
abbrev pub proof_told : JobSetting → (first job : List ℕ) → (proof : ℕ) → List ℕ
proof_told by first job proof =
    decimal proof ++ told (gadget_in_domain by.circuit (job_query by.shape first proof)) (matched_seeds by first job proof)

-- the line of a proof of a job: the job's nonce, and then that
abbrev pub seeds_line : JobSetting → (first job : List ℕ) → (proof : ℕ) → List ℕ
seeds_line by first job proof = line_with (take 16 job) (proof_told by first job proof)

-- the lines of a job, one for each proof
abbrev pub place_lines : JobSetting → (first job : List ℕ) → List ℕ
place_lines by first job = flat_map (seeds_line by first job) (job_proofs by.shape)

-- those of all jobs but the first
abbrev pub hidden_lines : JobSetting → (jobs : List (List ℕ)) → List ℕ
hidden_lines by [] = []
hidden_lines by (first ∷ others) = flat_map (place_lines by first) others

-- all that is printed
abbrev pub hidden_text : JobText
hidden_text by header jobs = hidden_lines by jobs
