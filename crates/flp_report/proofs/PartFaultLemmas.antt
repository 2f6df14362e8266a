-- The first fault of the jobs, from what was left of a job file.
use Rattle.std.proofs.Common.{◌≡◌, ℕ, ◌+◌, ◌*◌, ◌<◌, ◌≤◌, List, length, Some, None, nat_lt, refl, ◌∙◌, arith}
use Rattle.std.proofs.lemmas.Bool.{lt-ltb, le-ltb}
use Rattle.flp_report.specs.declared.fault.BatchFault.{BatchFault}
use Rattle.flp_report.specs.declared.fault.BatchFault.TheVariants.{Trailing}
use Rattle.flp_report.specs.declared.job_shape.JobShape.{JobShape}
use Rattle.flp_report.specs.Fault.{met}
use Rattle.flp_report.specs.Reads.{EndedShort}
use Rattle.flp_report.specs.Pieces.{pieces}
use Rattle.flp_report.specs.Job.{job_bytes_of, word_fault, jobs_fault}
use Rattle.flp_report.proofs.HeadLemmas.{ended-none, ended-short}
use Rattle.flp_report.proofs.FaultLemmas.{first_of-here, first_of-next, first_of-last}

-- jobs that ended short
pub jobs_fault-short : (s : JobShape) (before jobs : ℕ) (rest : List ℕ) (b : BatchFault) → EndedShort (Some rest) before (jobs * job_bytes_of s) (before + jobs * job_bytes_of s) b → jobs_fault s before jobs rest ≡ Some b
jobs_fault-short s before jobs rest b short =
    let fits : before + jobs * job_bytes_of s ≤ before + jobs * job_bytes_of s = omega arith in
    first_of-here _ _ b (ended-short before (jobs * job_bytes_of s) (before + jobs * job_bytes_of s) rest b fits short)

-- jobs with a byte behind them
pub jobs_fault-trailing : (s : JobShape) (before jobs : ℕ) (rest : List ℕ) → jobs * job_bytes_of s < length rest → jobs_fault s before jobs rest ≡ Some Trailing
jobs_fault-trailing s before jobs rest more =
    let reaches : before + jobs * job_bytes_of s ≤ before + length rest = omega (arith, more) in
    let over : before + jobs * job_bytes_of s < before + length rest = omega (arith, more) in
    rw (ended-none before (before + jobs * job_bytes_of s) rest reaches, lt-ltb (before + jobs * job_bytes_of s) (before + length rest) over) refl

-- jobs with nothing behind them
pub jobs_fault-words : (s : JobShape) (before jobs : ℕ) (rest : List ℕ) → length rest ≡ jobs * job_bytes_of s → jobs_fault s before jobs rest ≡ word_fault s 0 (pieces (job_bytes_of s) jobs rest)
jobs_fault-words s before jobs rest same =
    let reaches : before + jobs * job_bytes_of s ≤ before + length rest = omega (arith, same) in
    let within : before + length rest ≤ before + jobs * job_bytes_of s = omega (arith, same) in
    let none : met (nat_lt (before + jobs * job_bytes_of s) (before + length rest)) Trailing ≡ None = rw (le-ltb (before + jobs * job_bytes_of s) (before + length rest) within) refl in
    first_of-next _ _ (ended-none before (before + jobs * job_bytes_of s) rest reaches)
    ∙ (first_of-next _ _ none
    ∙ first_of-last _)
