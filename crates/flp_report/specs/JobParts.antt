-- The parts of a job's bytes: the nonce, the input, the parts of shares 1 and up, and each proof's own words.
use Rattle.std.specs.Prelude.{ℕ, ◌+◌, ◌-◌, ◌*◌, List, take, drop}
use Rattle.flp_report.specs.declared.job_shape.JobShape.{JobShape}
use Rattle.flp_report.specs.declared.job.Job.{Job}
use Rattle.flp_report.specs.declared.job.Jobs.{Jobs}
use Rattle.flp_report.specs.Pieces.{pieces}
use Rattle.flp_report.specs.Job.{job_part_of, job_words_of, job_bytes_of}
use Rattle.flp_report.specs.Words.{words}

-- a job's bytes
abbrev pub job_of : Job → List ℕ
job_of j = j.bytes.now

-- the shape that a job was made for
abbrev pub job_shape_of : Job → JobShape
job_shape_of j = j.shape

-- the words of a job, numbered from 0 behind the nonce
abbrev pub job_words_in : JobShape → List ℕ → List ℕ
job_words_in s bytes = words (job_words_of s) (drop 16 bytes)

-- the bytes of the input
abbrev pub input_in : JobShape → List ℕ → List ℕ
input_in s bytes = take (8 * s.input) (drop 16 bytes)

-- the bytes of the words of shares 1 and up
abbrev pub parts_in : JobShape → List ℕ → List ℕ
parts_in s bytes = take (8 * ((s.shares - 1) * job_part_of s)) (drop (16 + 8 * s.input) bytes)

-- the number of the first of one proof's seeds
abbrev pub seeds_word : JobShape → ℕ → ℕ
seeds_word s proof = s.input + (s.shares - 1) * job_part_of s + proof * s.prove

-- where they begin
abbrev pub seeds_start : JobShape → ℕ → ℕ
seeds_start s proof = 16 + 8 * seeds_word s proof

-- the bytes of one proof's seeds
abbrev pub seeds_in_job : JobShape → List ℕ → ℕ → List ℕ
seeds_in_job s bytes proof = take (8 * s.prove) (drop (seeds_start s proof) bytes)

-- the number of the first of one proof's joint and query words
abbrev pub job_own_word : JobShape → ℕ → ℕ
job_own_word s proof = s.input + (s.shares - 1) * job_part_of s + s.proofs * s.prove + proof * (s.joint + s.query)

-- where they begin
abbrev pub job_own_start : JobShape → ℕ → ℕ
job_own_start s proof = 16 + 8 * job_own_word s proof

-- the bytes of one proof's joint words
abbrev pub job_joint_in : JobShape → List ℕ → ℕ → List ℕ
job_joint_in s bytes proof = take (8 * s.joint) (drop (job_own_start s proof) bytes)

-- the bytes of one proof's query words
abbrev pub job_query_in : JobShape → List ℕ → ℕ → List ℕ
job_query_in s bytes proof = take (8 * s.query) (drop (job_own_start s proof + 8 * s.joint) bytes)

-- the shape of the jobs, how many there are, and their bytes, one after the other
abbrev pub jobs_shape : Jobs → JobShape
jobs_shape j = j.shape

abbrev pub jobs_count : Jobs → ℕ
jobs_count j = j.count

abbrev pub jobs_bytes : Jobs → List ℕ
jobs_bytes j = j.bytes.items

-- the bytes of the job of this number
abbrev pub job_in : Jobs → ℕ → List ℕ
job_in j index = take (job_bytes_of j.shape) (drop (job_bytes_of j.shape * index) j.bytes.items)

-- the jobs
abbrev pub jobs_in : Jobs → List (List ℕ)
jobs_in j = pieces (job_bytes_of j.shape) j.count j.bytes.items
