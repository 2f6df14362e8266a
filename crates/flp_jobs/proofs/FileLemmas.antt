-- From what the reader's calls gave to what all bytes of a file say.
use Rattle.std.proofs.Common.{◌≡◌, ◌≢◌, ◌⊎◌, ℕ, Bool, ◌+◌, ◌*◌, ◌≤◌, ⊎_elim, List, [], ◌∷◌, ◌++◌, length, Option, Some, None, Result, Err, inl, inr, refl, sym, ap, subst, ◌∙◌, arith, append-nil, length-append}
use Rattle.std.specs.Prelude.{IfSome, slice_get}
use Rattle.std.specs.Io.KnownBytes.{Consumes, IsAtEnd}
use Rattle.std.proofs.KnownBytes.{Consumes-trans, Consumes-whole}
use Rattle.flp_load.specs.declared.fault.LoadFault.{LoadFault}
use Rattle.flp_load.specs.declared.fault.LoadFault.TheVariants as load
use Rattle.flp_load.specs.Loaded.{IsLoaded}
use Rattle.flp_load.specs.Fault.{IsLoadFault, IsCircuitFault}
use Rattle.flp_report.specs.declared.fault.BatchFault.{BatchFault}
use Rattle.flp_report.specs.declared.fault.BatchFault.TheVariants.{Trailing}
use Rattle.flp_report.specs.declared.fault.ReadFault.{ReadFault}
use Rattle.flp_report.specs.declared.fault.ReadFault.TheVariants as read
use Rattle.flp_report.specs.declared.header.Header.{Header}
use Rattle.flp_report.specs.declared.header.JobHeader.{JobHeader}
use Rattle.flp_report.specs.declared.job_shape.JobShape.{JobShape}
use Rattle.flp_report.specs.declared.job.Jobs.{Jobs}
use Rattle.flp_report.specs.declared.job.Job.{Job}
use Rattle.flp_report.specs.Fault.{IfBatch}
use Rattle.flp_report.specs.Head.{head_fault, number_at}
use Rattle.flp_report.specs.Pieces.{pieces}
use Rattle.flp_report.specs.Job.{job_letters, job_bytes_of, job_file_size, made_header, job_large_fault, jobs_fault, job_fault_of, word_fault, jobs_of, IsJobHead}
use Rattle.flp_io.specs.Reads.{ConsumesAtMost}
use Rattle.flp_report.specs.JobParts.{jobs_shape, jobs_count, jobs_bytes, jobs_in, job_of, job_shape_of}
use Rattle.flp_report.proofs.HeadLemmas.{length-text}
use Rattle.flp_report.proofs.JobHeadLemmas.{job_head-more, job_header_of-more, job_fault-shape, job_fault-jobs, jobs_of-more, job_says}
use Rattle.flp_report.proofs.PartFaultLemmas.{jobs_fault-trailing, jobs_fault-words}
use Rattle.flp_report.proofs.KnownLemmas.{IfSome-consumed, IfSome-before, IfSome-map}
use Rattle.flp_report.proofs.ReadsLemmas.{ConsumesAtMost-after}
use Rattle.flp_report.proofs.PiecesLemmas.{IsCut-pieces}
use Rattle.flp_batch.specs.declared.fault.EngineFault.TheVariants.{Batch, Circuit}
use Rattle.flp_jobs.specs.declared.file.JobFront.{JobFront}
use Rattle.flp_jobs.specs.declared.file.JobFile.{JobFile}
use Rattle.flp_batch.specs.Fault.{fault_from, fault_of_text, IfFile}
use Rattle.flp_batch.specs.JobSetting.{JobSetting, IsJobShapeBehind}
use Rattle.flp_batch.specs.Format.{job_files}
use Rattle.flp_batch.specs.File.{HasSetting, IsFault, TakesFile, TakesFew}
use Rattle.flp_report.specs.Job.{made_header}
use Rattle.flp_jobs.specs.Reading.{setting_behind, OpensJobs, IsRefusedBehind, Reads, IsWhole, IsJobOf}
use Rattle.flp_jobs.specs.Place.{first_job}
use Rattle.flp_jobs.proofs.PlaceLemmas.{words-good}

-- ---- a fault in front of the jobs

-- of the head
pub head-refused : (written : Bool) (left : Option (List ℕ)) (fault : ReadFault)
    → IfBatch fault (λ b. IfSome left (λ bytes. head_fault job_letters 28 None bytes ≡ Some b))
    → IfFile (fault_from fault) (λ f. IfSome left (λ bytes. IsFault (job_files written) bytes f))
head-refused written left read.Memory is = tt
head-refused written left read.Failed is = tt
head-refused written left (read.Batch b) is =
    IfSome-map (λ bytes. head_fault job_letters 28 None bytes ≡ Some b) (λ bytes. IsFault (job_files written) bytes (Batch b)) left (λ bytes found. inl found) is

-- of the text
pub text-refused : (written : Bool) (left mid : Option (List ℕ)) (front : List ℕ) (header : JobHeader) (fault : LoadFault)
    → Consumes left mid front → IsJobHead front header → IsLoadFault header.text fault
    → IfFile (fault_of_text fault) (λ f. IfSome left (λ bytes. IsFault (job_files written) bytes f))
text-refused written left mid front header load.Memory gone head is = tt
text-refused written left mid front header (load.Circuit fault) gone head is =
    let P : JobHeader → Type 0 = λ h. IsCircuitFault h.text fault in
    IfSome-consumed (λ bytes. IsFault (job_files written) bytes (Circuit fault)) left mid front gone
    (λ rest. record { head = job_head-more front rest header head; text = subst P (sym (job_header_of-more front rest header head)) is })

-- ---- the jobs

-- their bytes
pub length-jobs : (jobs : Jobs) (shape : JobShape) (count : ℕ) → jobs_shape jobs ≡ shape → jobs_count jobs ≡ count → length (jobs_bytes jobs) ≡ count * job_bytes_of shape
length-jobs jobs shape count same number =
    jobs.whole ∙ (ap (λ (n : ℕ). n * job_bytes_of jobs.shape) number ∙ ap (λ (s : JobShape). count * job_bytes_of s) same)

-- they are the pieces of these
jobs-same : (jobs : Jobs) (shape : JobShape) (count : ℕ) → jobs_shape jobs ≡ shape → jobs_count jobs ≡ count → jobs_in jobs ≡ pieces (job_bytes_of shape) count (jobs_bytes jobs)
jobs-same jobs shape count same number =
    ap (λ (s : JobShape). pieces (job_bytes_of s) jobs.count (jobs_bytes jobs)) same
    ∙ ap (λ (n : ℕ). pieces (job_bytes_of shape) n (jobs_bytes jobs)) number

-- bytes that are not none are some
some-byte : (rest : List ℕ) → rest ≢ [] → 1 ≤ length rest
some-byte [] some = absurd (some refl)
some-byte (b ∷ rest) some = omega arith

-- ---- behind what was opened

module _ (written : Bool) (left mid : Option (List ℕ)) (front : JobFront) (o : OpensJobs written left mid front) where
  abbrev by : JobSetting
  by = setting_behind front

  -- where the jobs begin
  start : 28 + length front.header.text ≡ length o.bytes
  start = sym (length-text 28 o.bytes front.header.text o.head.size (ap (λ (h : JobHeader). h.text) o.head.same))

  -- a file that begins with what was opened has its setting
  behind : (rest : List ℕ) → HasSetting (job_files written) (o.bytes ++ rest) by.params by
  behind rest =
      let P : JobHeader → Type 0 = λ h. IsLoaded h.text by.params by.circuit in
      let Q : JobHeader → Type 0 = λ h. IsJobShapeBehind written h by.params by.circuit by.shape in
      let same = sym (job_header_of-more o.bytes rest front.header o.head) in
      record { head = job_head-more o.bytes rest front.header o.head; text = subst P same o.text; fits = record { params_are = refl; shape = subst Q same o.shape } }

  -- a fault there: a size above its limit, or one of the jobs
  fault-behind : (rest : List ℕ) (b : BatchFault) → job_fault_of by.shape (o.bytes ++ rest) ≡ Some b → IsFault (job_files written) (o.bytes ++ rest) (Batch b)
  fault-behind rest b is = inr (record { params = by.params; setting = by; has = behind rest; is = is })

  abbrev Refused : ReadFault → Type 0
  Refused fault = IfFile (fault_from fault) (λ f. IfSome left (λ bytes. IsFault (job_files written) bytes f))

  refused-at : (fault : ReadFault) → IfBatch fault (IsRefusedBehind by.shape (length o.bytes) front.header.jobs mid) → Refused fault
  refused-at read.Memory is = tt
  refused-at read.Failed is = tt
  refused-at (read.Batch b) is =
      ⊎_elim
      (λ large. IfSome-consumed (λ bytes. IsFault (job_files written) bytes (Batch b)) left mid o.bytes o.read
      (λ rest. fault-behind rest b (job_fault-shape by.shape o.bytes rest front.header b o.head large)))
      (λ among. IfSome-before (λ bytes. IsFault (job_files written) bytes (Batch b)) (λ rest. jobs_fault by.shape (length o.bytes) front.header.jobs rest ≡ Some b) left mid o.bytes o.read among.1
      (λ rest found. fault-behind rest b (job_fault-jobs by.shape o.bytes rest front.header o.head among.0 ∙ found)))
      is

  pub jobs-refused : (place count : ℕ) (fault : ReadFault) → place ≡ 28 + length front.header.text → count ≡ front.header.jobs
      → IfBatch fault (IsRefusedBehind by.shape place count mid) → Refused fault
  jobs-refused place count fault at number is =
      let P : ℕ → Type 0 = λ n. IfBatch fault (IsRefusedBehind by.shape n count mid) in
      let Q : ℕ → Type 0 = λ n. IfBatch fault (IsRefusedBehind by.shape (length o.bytes) n mid) in
      refused-at fault (subst Q number (subst P (at ∙ start) is))

  -- the whole file
  pub Reads-from : (left' : Option (List ℕ)) (header : Header) (jobs : Jobs) (place count : ℕ)
      → place ≡ 28 + length front.header.text → count ≡ front.header.jobs → header ≡ made_header front.header → job_large_fault by.shape place count ≡ None
      → Consumes mid left' (jobs_bytes jobs) → IsAtEnd left' → jobs_shape jobs ≡ by.shape → jobs_count jobs ≡ count
      → word_fault by.shape 0 (jobs_in jobs) ≡ None → Reads written left left' (record { header = header; loaded = front.loaded; shape = front.shape; jobs = jobs })
  Reads-from left' header jobs place count at number made small read ended shape many words =
      let bytes = jobs_bytes jobs in
      let same-count : jobs_count jobs ≡ front.header.jobs = many ∙ number in
      let fits : job_large_fault by.shape (length o.bytes) front.header.jobs ≡ None =
      subst (λ (n : ℕ). job_large_fault by.shape (length o.bytes) n ≡ None) number (subst (λ (n : ℕ). job_large_fault by.shape n count ≡ None) (at ∙ start) small) in
      let whole : length bytes ≡ front.header.jobs * job_bytes_of by.shape = length-jobs jobs by.shape front.header.jobs shape same-count in
      let same : jobs_in jobs ≡ pieces (job_bytes_of by.shape) front.header.jobs bytes = jobs-same jobs by.shape front.header.jobs shape same-count in
      let bare : o.bytes ++ (bytes ++ []) ≡ o.bytes ++ bytes = ap (λ (b : List ℕ). o.bytes ++ b) (append-nil bytes) in
      record {
        bytes = o.bytes ++ bytes;
        read = Consumes-trans left mid left' o.bytes bytes o.read read;
        ended = ended;
        is_file = record {
          has = behind bytes;
          no_fault = job_fault-jobs by.shape o.bytes bytes front.header o.head fits
              ∙ (jobs_fault-words by.shape (length o.bytes) front.header.jobs bytes whole
              ∙ (ap (λ (l : List (List ℕ)). word_fault by.shape 0 l) (sym same) ∙ words));
        };
        header = ap made_header (job_header_of-more o.bytes bytes front.header o.head) ∙ sym made;
        jobs = ap (jobs_of by.shape) (sym bare) ∙ (jobs_of-more by.shape o.bytes bytes [] front.header o.head whole ∙ sym same);
      }

  -- no more bytes are taken than the head gives
  pub few-jobs : (left' : Option (List ℕ)) (count : ℕ) → count ≡ front.header.jobs → ConsumesAtMost (count * job_bytes_of by.shape + 1) mid left' → TakesFew (job_files written) left left'
  few-jobs left' count number few =
      inr (IfSome-consumed (TakesFile (job_files written) left left') left mid o.bytes o.read
      (λ rest.
      let says = job_says o.bytes rest front.header o.head in
      let many : count * job_bytes_of by.shape ≡ number_at 24 (o.bytes ++ rest) * job_bytes_of by.shape = ap (λ (n : ℕ). n * job_bytes_of by.shape) (number ∙ sym says.jobs) in
      record {
        params = by.params;
        setting = by;
        has = behind rest;
        few = ConsumesAtMost-after left mid left' o.bytes (count * job_bytes_of by.shape + 1) (job_file_size by.shape (o.bytes ++ rest) + 1) o.read few (omega (arith, many, says.text));
      }))

-- ---- what the end of the input answers behind jobs

-- a byte behind them, or a bad word among them
pub end-refused : {T : Type 0} (r : Result T ReadFault) (fault : ReadFault) (shape : JobShape) (place count : ℕ) (left mid : Option (List ℕ)) (jobs : Jobs)
    → Consumes left mid (jobs_bytes jobs) → jobs_shape jobs ≡ shape → jobs_count jobs ≡ count → job_large_fault shape place count ≡ None → r ≡ Err fault
    → (r ≡ Err read.Failed) ⊎ ((r ≡ Err (read.Batch Trailing)) × IfSome mid (λ rest. rest ≢ []))
    ⊎ ((b : BatchFault) × (r ≡ Err (read.Batch b)) × IsAtEnd mid × (word_fault (jobs_shape jobs) 0 (jobs_in jobs) ≡ Some b))
    → IfBatch fault (IsRefusedBehind shape place count left)
end-refused r read.Memory shape place count left mid jobs gone same number small is answer = tt
end-refused r read.Failed shape place count left mid jobs gone same number small is answer = tt
end-refused r (read.Batch b) shape place count left mid jobs gone same number small is (inl failed) =
    let no : ⊥ = cc in absurd no
end-refused r (read.Batch b) shape place count left mid jobs gone same number small is (inr (inl trailing)) =
    let bytes = jobs_bytes jobs in
    let first = trailing.0 in
    let last : b ≡ Trailing = cc in
    let whole : length bytes ≡ count * job_bytes_of shape = length-jobs jobs shape count same number in
    inr (
      small,
      IfSome-before (λ rest. jobs_fault shape place count rest ≡ Some b) (λ rest. rest ≢ []) left mid bytes gone trailing.1
          (λ rest some.
          let more = some-byte rest some in
          let long = length-append bytes rest in
          jobs_fault-trailing shape place count (bytes ++ rest) (omega (arith, whole, long, more)) ∙ ap Some (sym last)),
    )
end-refused r (read.Batch b) shape place count left mid jobs gone same number small is (inr (inr bad)) =
    let bytes = jobs_bytes jobs in
    let first = bad.1 in
    let last : b ≡ bad.0 = cc in
    let whole : length bytes ≡ count * job_bytes_of shape = length-jobs jobs shape count same number in
    inr (
      small,
      Consumes-whole left mid bytes (λ rest. jobs_fault shape place count rest ≡ Some b) gone bad.2
          (jobs_fault-words shape place count bytes whole
          ∙ (ap (λ (l : List (List ℕ)). word_fault shape 0 l) (sym (jobs-same jobs shape count same number))
          ∙ (ap (λ (s : JobShape). word_fault s 0 (jobs_in jobs)) (sym same)
          ∙ (bad.3 ∙ ap Some (sym last))))),
    )

-- ---- the jobs of a file that was read

-- how many there are
pub count-jobs : (file : JobFile) → IsWhole file → length (jobs_in file.jobs) ≡ file.header.reports
count-jobs file whole =
    (IsCut-pieces (job_bytes_of file.jobs.shape) file.jobs.count (jobs_bytes file.jobs) file.jobs.whole).number ∙ whole.count

-- each is one of this file
pub IsJobOf-numbered : (file : JobFile) (job : Job) (number : ℕ) → IsWhole file → job_shape_of job ≡ jobs_shape file.jobs
    → slice_get (jobs_in file.jobs) number ≡ Some (job_of job) → IsJobOf file job
IsJobOf-numbered file job number whole same at =
    record { shape = same ∙ whole.shape; words = words-good file.shape 0 number (jobs_in file.jobs) (job_of job) whole.words at }

-- that of a number is one
pub same-numbered : (jobs : List (List ℕ)) (number : ℕ) (job other : List ℕ) → slice_get jobs number ≡ Some job → slice_get jobs number ≡ Some other → job ≡ other
same-numbered jobs number job other p q = let same : Some job ≡ Some other = sym p ∙ q in cc

-- that of number 0 is the first
pub first-numbered : (jobs : List (List ℕ)) (job : List ℕ) → slice_get jobs 0 ≡ Some job → job ≡ first_job jobs
first-numbered [] job at = let no : ⊥ = cc in absurd no
first-numbered (first ∷ more) job at = let same : Some first ≡ Some job = at in cc
