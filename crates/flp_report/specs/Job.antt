-- The job file, from its parts up to the first fault of a whole file.
use Rattle.std.specs.Prelude.{ℕ, suc, nat_le, ◌+◌, ◌-◌, ◌*◌, ◌≡◌, ◌≤◌, List, [], ◌∷◌, Option, Some, None, codes, nat_lt, if◌then◌else◌, length, take, drop}
use Rattle.flp_report.specs.declared.fault.BatchFault.{BatchFault}
use Rattle.flp_report.specs.declared.fault.BatchFault.TheVariants.{TooLarge, Trailing, Word}
use Rattle.flp_report.specs.declared.header.Header.{Header}
use Rattle.flp_report.specs.declared.header.JobHeader.{JobHeader}
use Rattle.flp_report.specs.declared.job_shape.JobShape.{JobShape}
use Rattle.flp_report.specs.declared.shape.Shape.{Shape}
use Rattle.flp_report.specs.Shape.{part_words, bytes_of}
use Rattle.flp_report.specs.Fault.{met, first_of, ended}
use Rattle.flp_report.specs.Head.{number_at, text_end, head_fault}
use Rattle.flp_report.specs.Pieces.{pieces}
use Rattle.std.specs.List.{position_from}
use Rattle.flp_field.specs.Word.{modulus}
use Rattle.flp_report.specs.Words.{words}

-- the letters with which a job file begins
abbrev pub job_letters : List ℕ
job_letters = codes "FLPTASKS"

-- what stands in front of the jobs: 28 bytes with the letters and five numbers, and the text
abbrev pub job_header_of : List ℕ → JobHeader
job_header_of bytes = record { shares = number_at 12 bytes; proofs = number_at 16 bytes; text = take (number_at 20 bytes) (drop 28 bytes); jobs = number_at 24 bytes }

-- the shape of the record of version 1 that is made of a job, where the circuit has this many outs
abbrev pub record_shape : JobShape → ℕ → Shape
record_shape s outs = record { version = 1; shares = s.shares; proofs = s.proofs; buckets = 1; meas = s.meas; joint = s.joint; query = s.query; proof = s.proof; outs = outs; few_shares = s.few_shares; few_proofs = s.few_proofs }

-- the bytes of that record, whatever the outs
abbrev pub made_bytes_of : JobShape → ℕ
made_bytes_of s = bytes_of (record_shape s 0)

-- the header of the batch of version 1 that is made of a job file: the same text, shares and proofs, no old claims, and a report
-- for each job
abbrev pub made_header : JobHeader → Header
made_header header = record { version = 1; shares = header.shares; proofs = header.proofs; text = header.text; claims = 0; reports = header.jobs; buckets = 1 }

-- the words of one share's part
abbrev pub job_part_of : JobShape → ℕ
job_part_of s = part_words (record_shape s 0)

-- the words of a job: the input, the parts of shares 1 and up, and per proof the seeds, and then per proof the joint and query words
abbrev pub job_words_of : JobShape → ℕ
job_words_of s = s.input + (s.shares - 1) * job_part_of s + s.proofs * s.prove + s.proofs * (s.joint + s.query)

-- the bytes of a job: a nonce and its words
abbrev pub job_bytes_of : JobShape → ℕ
job_bytes_of s = 16 + 8 * job_words_of s

-- the first size above its limit: of a job, of a record, of the file behind its first `before` bytes, of the batch that would be written
abbrev pub job_large_fault : JobShape → ℕ → ℕ → Option BatchFault
job_large_fault s before jobs =
    first_of (
    met (nat_lt 16777216 (job_bytes_of s)) (TooLarge (job_bytes_of s))
    ∷ met (nat_lt 16777216 (made_bytes_of s)) (TooLarge (made_bytes_of s))
    ∷ met (nat_lt 1073741824 (before + jobs * job_bytes_of s)) (TooLarge (before + jobs * job_bytes_of s))
    ∷ (if s.written then met (nat_lt 1073741824 (before + 4 + jobs * made_bytes_of s)) (TooLarge (before + 4 + jobs * made_bytes_of s)) else None)
    ∷ [])

-- how many words of a job may have any value
abbrev pub free_words : JobShape → ℕ
free_words s = if s.checked then 0 else s.input

-- the first word of a job that must be below the modulus and is not
abbrev pub job_bad_word : JobShape → List ℕ → Option ℕ
job_bad_word s job = position_from (λ n. nat_le modulus n) (free_words s) (words (job_words_of s - free_words s) (drop (8 * free_words s) (drop 16 job)))

-- a bad word of the job of this place, or else what follows
abbrev pub word_or : ℕ → Option ℕ → Option BatchFault → Option BatchFault
word_or place None rest = rest
word_or place (Some word) rest = Some (Word place word)

-- the first bad word of jobs, the first of which has this place
abbrev pub word_fault : JobShape → ℕ → List (List ℕ) → Option BatchFault
word_fault s place [] = None
word_fault s place (job ∷ rest) = word_or place (job_bad_word s job) (word_fault s (suc place) rest)

-- that word as a fault, by the place of its job and its number in the job
abbrev pub first_word : Option (ℕ × ℕ) → Option BatchFault
first_word None = None
first_word (Some pair) = Some (Word pair.0 pair.1)

-- the first fault of the jobs behind the first `before` bytes of a file
abbrev pub jobs_fault : JobShape → ℕ → ℕ → List ℕ → Option BatchFault
jobs_fault s before jobs rest =
    first_of (
    ended before (before + jobs * job_bytes_of s) rest
    ∷ met (nat_lt (before + jobs * job_bytes_of s) (before + length rest)) Trailing
    ∷ word_fault s 0 (pieces (job_bytes_of s) jobs rest)
    ∷ [])

-- the first fault of a job file, the circuit's own fault aside, or none where it is one
abbrev pub job_fault_of : JobShape → List ℕ → Option BatchFault
job_fault_of s bytes =
    first_of (
    head_fault job_letters 28 None bytes
    ∷ job_large_fault s (text_end 28 bytes) (number_at 24 bytes)
    ∷ jobs_fault s (text_end 28 bytes) (number_at 24 bytes) (drop (text_end 28 bytes) bytes)
    ∷ [])

-- the size that the head gives to a file whose jobs have this shape
abbrev pub job_file_size : JobShape → List ℕ → ℕ
job_file_size s bytes = text_end 28 bytes + number_at 24 bytes * job_bytes_of s

-- the jobs of a file without a fault
abbrev pub jobs_of : JobShape → List ℕ → List (List ℕ)
jobs_of s bytes = pieces (job_bytes_of s) (number_at 24 bytes) (drop (text_end 28 bytes) bytes)

-- the bytes in front of the jobs of a file without a fault up to there, and what they say
pub record IsJobHead (bytes : List ℕ) (header : JobHeader) : Type 0 where
  pub size : length bytes ≡ text_end 28 bytes
  pub none : head_fault job_letters 28 None bytes ≡ None
  pub same : header ≡ job_header_of bytes

-- the numbers of a header are within their limits
pub record IsJobInLimits (header : JobHeader) : Type 0 where
  pub least_shares : 2 ≤ header.shares
  pub most_shares : header.shares ≤ 16
  pub least_proofs : 1 ≤ header.proofs
  pub most_proofs : header.proofs ≤ 16
  pub text : length header.text ≤ 65536
