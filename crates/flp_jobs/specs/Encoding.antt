-- What a job says, and its encoding. From its parts up.
use Rattle.std.specs.Prelude.{ℕ, ◌-◌, ◌*◌, List, Option, Some, None}
use Rattle.std.specs.List.{range_with_len}
use Rattle.flp_syntax.specs.declared.syntax.Params.{Params}
use Rattle.flp_circuits.specs.Encoding.{encoding_of}
use Rattle.flp_report.specs.declared.job_shape.JobShape.{JobShape}
use Rattle.flp_report.specs.Words.{words}
use Rattle.flp_report.specs.Job.{job_part_of}
use Rattle.flp_report.specs.JobParts.{input_in, parts_in, seeds_in_job, job_joint_in, job_query_in}
use Rattle.flp_batch.specs.JobSetting.{JobSetting}

-- the numbers of the input
abbrev pub job_input : JobShape → (job : List ℕ) → List ℕ
job_input shape job = words shape.input (input_in shape job)

-- the words of shares 1 and up, one share's part after the other
abbrev pub given_words : JobShape → (job : List ℕ) → List ℕ
given_words shape job = words ((shape.shares - 1) * job_part_of shape) (parts_in shape job)

-- the numbers of the proofs
abbrev pub job_proofs : JobShape → List ℕ
job_proofs shape = range_with_len 0 shape.proofs

-- the seeds of a proof, and its joint and query words
abbrev pub job_seeds : JobShape → (job : List ℕ) → (proof : ℕ) → List ℕ
job_seeds shape job proof = words shape.prove (seeds_in_job shape job proof)

abbrev pub job_joint : JobShape → (job : List ℕ) → (proof : ℕ) → List ℕ
job_joint shape job proof = words shape.joint (job_joint_in shape job proof)

abbrev pub job_query : JobShape → (job : List ℕ) → (proof : ℕ) → List ℕ
job_query shape job proof = words shape.query (job_query_in shape job proof)

-- the encoding of an input: a measurement is encoded for its standard circuit; for a circuit of the text's own the input is the encoding
abbrev pub encoding_for : Option Params → (input : List ℕ) → List ℕ
encoding_for (Some params) input = encoding_of params input
encoding_for None input = input

-- the encoding of a job
abbrev pub job_encoding : JobSetting → (job : List ℕ) → List ℕ
job_encoding by job = encoding_for by.params (job_input by.shape job)
