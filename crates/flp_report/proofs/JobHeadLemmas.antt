-- What a job file's head says, and its first fault, from its parts.
use Rattle.std.proofs.Common.{◌≡◌, ℕ, ◌+◌, ◌*◌, ◌≤◌, List, [], ◌∷◌, ◌++◌, length, take, drop, Some, None, refl, sym, ap, ◌∙◌, arith, length-append, length-drop}
use Rattle.std.proofs.lemmas.List.{drop_at, take_all, take-append-le, drop-append-le}
use Rattle.flp_report.specs.declared.fault.BatchFault.{BatchFault}
use Rattle.flp_report.specs.declared.header.JobHeader.{JobHeader}
use Rattle.flp_report.specs.declared.job_shape.JobShape.{JobShape}
use Rattle.flp_report.specs.Fault.{ended}
use Rattle.flp_report.specs.Head.{number_at, numbers_fault, text_end, head_fault}
use Rattle.flp_report.specs.Job.{job_letters, job_header_of, job_bytes_of, job_large_fault, jobs_fault, job_fault_of, jobs_of, IsJobHead}
use Rattle.flp_report.specs.Pieces.{pieces}
use Rattle.flp_report.proofs.PiecesLemmas.{pieces-append}
use Rattle.flp_report.proofs.HeadLemmas.{ended-none, number_at-append, numbers_fault-append, head_fault-none}
use Rattle.flp_report.proofs.FaultLemmas.{first_of-here, first_of-next, first_of-last, none-at}

-- what was read in front of the jobs is what a head says
pub IsJobHead-joined : (front text : List ℕ) → length front ≡ 28 → length text ≡ number_at 20 front → numbers_fault job_letters 1 None front ≡ None
    → IsJobHead (front ++ text) (record { shares = number_at 12 front; proofs = number_at 16 front; text = text; jobs = number_at 24 front })
IsJobHead-joined front text size length_of none =
    let e : 12 + 4 ≤ length front = omega (arith, size) in
    let f : 16 + 4 ≤ length front = omega (arith, size) in
    let g : 20 + 4 ≤ length front = omega (arith, size) in
    let h : 24 + 4 ≤ length front = omega (arith, size) in
    let enough : number_at 20 front ≤ length text = omega (arith, length_of) in
    let behind : drop 28 (front ++ text) ≡ text = drop_at front text 28 size in
    let all : take (number_at 20 front) text ≡ text = take_all (number_at 20 front) text (omega (arith, length_of)) in
    record {
      size = rw (number_at-append 20 front text g) (omega (arith, length-append front text, size, length_of));
      none = head_fault-none job_letters 28 None front text refl (omega arith) size none enough;
      same = rw (number_at-append 12 front text e, number_at-append 16 front text f, number_at-append 20 front text g, number_at-append 24 front text h, behind, all) refl;
    }

-- what the bytes of a head say, whatever follows them
pub record JobSays (front rest : List ℕ) (header : JobHeader) : Type 0 where
  pub text : text_end 28 (front ++ rest) ≡ length front
  pub jobs : number_at 24 (front ++ rest) ≡ header.jobs
  pub behind : drop (text_end 28 (front ++ rest)) (front ++ rest) ≡ rest

pub job_says : (front rest : List ℕ) (header : JobHeader) → IsJobHead front header → JobSays front rest header
job_says front rest header head =
    let a : 20 + 4 ≤ length front = omega (arith, head.size) in
    let b : 24 + 4 ≤ length front = omega (arith, head.size) in
    let text : text_end 28 (front ++ rest) ≡ length front = ap (λ (n : ℕ). 28 + n) (number_at-append 20 front rest a) ∙ sym head.size in
    record {
      text = text;
      jobs = number_at-append 24 front rest b ∙ ap (λ (h : JobHeader). h.jobs) (sym head.same);
      behind = ap (λ (n : ℕ). drop n (front ++ rest)) text ∙ drop_at front rest (length front) refl;
    }

-- a file that begins with a head has no fault up to its text
pub job_head-more : (front rest : List ℕ) (header : JobHeader) → IsJobHead front header → head_fault job_letters 28 None (front ++ rest) ≡ None
job_head-more front rest header head =
    let text = (job_says front rest header head).text in
    let enough : 24 ≤ length front = omega (arith, head.size) in
    let whole : 28 ≤ 0 + length (front ++ rest) = omega (arith, length-append front rest, head.size) in
    let behind = length-drop 28 (front ++ rest) in
    let reaches : text_end 28 (front ++ rest) ≤ 28 + length (drop 28 (front ++ rest)) = omega (arith, text, behind, length-append front rest, head.size) in
    let none : numbers_fault job_letters 1 None front ≡ None = none-at (ended 0 28 front ∷ numbers_fault job_letters 1 None front ∷ ended 28 (text_end 28 front) (drop 28 front) ∷ []) 1 head.none in
    rw (ended-none 0 28 (front ++ rest) whole, numbers_fault-append job_letters 1 None front rest refl enough, none, ended-none 28 (text_end 28 (front ++ rest)) (drop 28 (front ++ rest)) reaches) refl

-- a file whose head has a fault
pub job_fault-head : (s : JobShape) (bytes : List ℕ) (b : BatchFault) → head_fault job_letters 28 None bytes ≡ Some b → job_fault_of s bytes ≡ Some b
job_fault-head s bytes b is = first_of-here (head_fault job_letters 28 None bytes) _ b is

-- a file that is too large
pub job_fault-shape : (s : JobShape) (front rest : List ℕ) (header : JobHeader) (b : BatchFault) → IsJobHead front header
    → job_large_fault s (length front) header.jobs ≡ Some b → job_fault_of s (front ++ rest) ≡ Some b
job_fault-shape s front rest header b head is =
    let says = job_says front rest header head in
    let same : job_large_fault s (text_end 28 (front ++ rest)) (number_at 24 (front ++ rest)) ≡ job_large_fault s (length front) header.jobs = rw (says.text, says.jobs) refl in
    first_of-next _ _ (job_head-more front rest header head) ∙ first_of-here _ _ b (same ∙ is)

-- the first fault of another file
pub job_fault-jobs : (s : JobShape) (front rest : List ℕ) (header : JobHeader) → IsJobHead front header
    → job_large_fault s (length front) header.jobs ≡ None → job_fault_of s (front ++ rest) ≡ jobs_fault s (length front) header.jobs rest
job_fault-jobs s front rest header head fits =
    let says = job_says front rest header head in
    let large : job_large_fault s (text_end 28 (front ++ rest)) (number_at 24 (front ++ rest)) ≡ job_large_fault s (length front) header.jobs = rw (says.text, says.jobs) refl in
    let same : jobs_fault s (text_end 28 (front ++ rest)) (number_at 24 (front ++ rest)) (drop (text_end 28 (front ++ rest)) (front ++ rest)) ≡ jobs_fault s (length front) header.jobs rest = rw (says.text, says.jobs, drop_at front rest (length front) refl) refl in
    first_of-next _ _ (job_head-more front rest header head) ∙ (first_of-next _ _ (large ∙ fits) ∙ (first_of-last _ ∙ same))

-- what a file's head says, whatever follows
pub job_header_of-more : (front rest : List ℕ) (header : JobHeader) → IsJobHead front header → job_header_of (front ++ rest) ≡ header
job_header_of-more front rest header head =
    let e : 12 + 4 ≤ length front = omega (arith, head.size) in
    let f : 16 + 4 ≤ length front = omega (arith, head.size) in
    let g : 20 + 4 ≤ length front = omega (arith, head.size) in
    let h : 24 + 4 ≤ length front = omega (arith, head.size) in
    let long : 28 ≤ length front = omega (arith, head.size) in
    let held : number_at 20 front ≤ length (drop 28 front) = omega (arith, length-drop 28 front, head.size) in
    let same : job_header_of (front ++ rest) ≡ job_header_of front = rw (number_at-append 12 front rest e, number_at-append 16 front rest f, number_at-append 20 front rest g, number_at-append 24 front rest h, drop-append-le 28 front rest long, take-append-le (number_at 20 front) (drop 28 front) rest held) refl in
    same ∙ sym head.same

-- and its jobs
pub jobs_of-more : (s : JobShape) (front jobs rest : List ℕ) (header : JobHeader) → IsJobHead front header → length jobs ≡ header.jobs * job_bytes_of s
    → jobs_of s (front ++ (jobs ++ rest)) ≡ pieces (job_bytes_of s) header.jobs jobs
jobs_of-more s front jobs rest header head size =
    let says = job_says front (jobs ++ rest) header head in
    let fit : header.jobs * job_bytes_of s ≤ length jobs = omega (arith, size) in
    rw (says.text, says.jobs, drop_at front (jobs ++ rest) (length front) refl) (pieces-append (job_bytes_of s) header.jobs jobs rest fit)
