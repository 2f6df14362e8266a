-- The search for a bad word among jobs.
use Rattle.std.proofs.Common.{◌≡◌, ℕ, suc, ◌+◌, ◌-◌, ◌*◌, ◌<◌, List, Option, Some, None, drop, ap, ◌∙◌, arith}
use Rattle.flp_report.specs.declared.fault.BatchFault.{BatchFault}
use Rattle.flp_report.specs.declared.fault.BatchFault.TheVariants.{Word}
use Rattle.flp_report.specs.declared.job_shape.JobShape.{JobShape}
use Rattle.flp_report.specs.Pieces.{pieces}
use Rattle.flp_report.specs.Job.{job_bytes_of, job_bad_word, word_or, word_fault}
use Rattle.flp_report.proofs.PiecesLemmas.{piece, pieces-drop}

-- the search from the job of this number on
abbrev pub word_from : JobShape → ℕ → ℕ → List ℕ → Option BatchFault
word_from s k n bytes = word_fault s k (pieces (job_bytes_of s) (n - k) (drop (job_bytes_of s * k) bytes))

-- at a job without a bad word it goes on
pub word_from-good : (s : JobShape) (k n : ℕ) (bytes : List ℕ) → k < n → job_bad_word s (piece (job_bytes_of s) k bytes) ≡ None → word_from s k n bytes ≡ word_from s (k + 1) n bytes
word_from-good s k n bytes below good =
    let one : suc k ≡ k + 1 = omega arith in
    let size = job_bytes_of s in
    ap (word_fault s k) (pieces-drop size k n bytes below)
    ∙ (ap (λ (w : Option ℕ). word_or k w (word_fault s (suc k) (pieces size (n - (k + 1)) (drop (size * (k + 1)) bytes)))) good
    ∙ ap (λ (m : ℕ). word_fault s m (pieces size (n - (k + 1)) (drop (size * (k + 1)) bytes))) one)

-- at another it ends
pub word_from-bad : (s : JobShape) (k n w : ℕ) (bytes : List ℕ) → k < n → job_bad_word s (piece (job_bytes_of s) k bytes) ≡ Some w → word_from s k n bytes ≡ Some (Word k w)
word_from-bad s k n w bytes below bad =
    let size = job_bytes_of s in
    ap (word_fault s k) (pieces-drop size k n bytes below)
    ∙ ap (λ (o : Option ℕ). word_or k o (word_fault s (suc k) (pieces size (n - (k + 1)) (drop (size * (k + 1)) bytes)))) bad

-- past the last job there is none
pub word_from-end : (s : JobShape) (n : ℕ) (bytes : List ℕ) → word_from s n n bytes ≡ None
word_from-end s n bytes =
    let none : n - n ≡ 0 = omega arith in
    ap (λ (m : ℕ). word_fault s n (pieces (job_bytes_of s) m (drop (job_bytes_of s * n) bytes))) none

-- from the first job on it is the search among all
pub word_from-start : (s : JobShape) (n : ℕ) (bytes : List ℕ) → word_from s 0 n bytes ≡ word_fault s 0 (pieces (job_bytes_of s) n bytes)
word_from-start s n bytes =
    let all : n - 0 ≡ n = omega arith in
    let start : job_bytes_of s * 0 ≡ 0 = omega arith in
    ap (λ (m : ℕ). word_fault s 0 (pieces (job_bytes_of s) m (drop (job_bytes_of s * 0) bytes))) all
    ∙ ap (λ (m : ℕ). word_fault s 0 (pieces (job_bytes_of s) n (drop m bytes))) start
