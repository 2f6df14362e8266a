-- A job file without a bad place: what its head says, that each of its jobs is good, and that its batch is read again.
use Rattle.std.proofs.Common.{ℕ, ◌≡◌, ◌+◌, ◌*◌, ◌^◌, ◌<◌, ◌≤◌, List, [], ◌∷◌, length, map, drop, get_or, ltb, Option, Some, None, refl, subst, ◌∙◌, arith}
use Rattle.std.specs.Prelude.{IfSome, if◌then◌else◌, not, nat_eq}
use Rattle.std.specs.List.{All, starts_with}
use Rattle.std.proofs.Math.Nat.{mul-le-mul_left}
use Rattle.std.proofs.lemmas.Bool.{le-ltb}
use Rattle.std.proofs.lemmas.Option.{slice_get-get_or}
use Rattle.std.proofs.lemmas.List.{length-map, length-take-le}
use Rattle.std.proofs.lemmas.List.Elements.{All-map, All-weaker}
use Rattle.flp_report.specs.declared.fault.BatchFault.{BatchFault}
use Rattle.flp_report.specs.declared.fault.BatchFault.TheVariants.{Magic, Version, Shares, Proofs, TextLength, TooLarge, Trailing}
use Rattle.flp_report.specs.declared.header.Header.{Header}
use Rattle.flp_report.specs.Fault.{met, first_of, ended}
use Rattle.flp_report.specs.Head.{number_at, numbers_fault, text_end, head_fault}
use Rattle.flp_report.specs.Shape.{bytes_of, width_of}
use Rattle.flp_report.specs.Pieces.{IsCut}
use Rattle.flp_report.specs.Batch.{large_fault}
use Rattle.flp_report.specs.Layout.{IsWritable}
use Rattle.flp_report.specs.Job.{job_letters, job_header_of, made_bytes_of, made_header, job_bytes_of, job_large_fault, word_fault, jobs_fault, jobs_of}
use Rattle.flp_report.proofs.FaultLemmas.{none-at, none-above, none-short}
use Rattle.flp_report.proofs.PiecesLemmas.{IsCut-pieces}
use Rattle.flp_load.specs.Laws.{LoadedIsBounded}
use Rattle.flp_batch.specs.Format.{newest_read, job_files}
use Rattle.flp_batch.specs.JobSetting.{JobSetting, made_shape}
use Rattle.flp_batch.specs.File.{HasSetting}
use Rattle.flp_batch.proofs.WrittenLemmas.{batch_written}
use Rattle.flp_jobs.specs.Record.{record_made}
use Rattle.flp_jobs.specs.declared.rules.Rules.{Rules}
use Rattle.flp_jobs.specs.Place.{judged_under, first_job}
use Rattle.flp_jobs.specs.Rules.{IsGoodFile}
use Rattle.flp_jobs.specs.Reply.{prove_rules, IsProvable}
use Rattle.flp_jobs.specs.Laws.{ReadsBack, BatchesReadBack, IsHonestlyMade, RecordsAreHonest}
use Rattle.flp_jobs.proofs.SettingLemmas.{circuit-of, outs-few, IsSetting-from}
use Rattle.flp_jobs.proofs.PlaceLemmas.{place-good, words-good}
use Rattle.flp_jobs.proofs.LawRecordLemmas.{IsSound, IsGood, length-record, honestly_made}

-- ---- the head

-- what is tried of its letters and numbers, in this order
abbrev numbers_tried : List ℕ → List (Option BatchFault)
numbers_tried bytes =
    met (not (starts_with nat_eq bytes job_letters)) Magic
    ∷ met (ltb (number_at 8 bytes) 1) (Version (number_at 8 bytes))
    ∷ met (ltb 1 (number_at 8 bytes)) (Version (number_at 8 bytes))
    ∷ met (ltb (number_at 12 bytes) 2) (Shares (number_at 12 bytes))
    ∷ met (ltb 16 (number_at 12 bytes)) (Shares (number_at 12 bytes))
    ∷ met (ltb (number_at 16 bytes) 1) (Proofs (number_at 16 bytes))
    ∷ met (ltb 16 (number_at 16 bytes)) (Proofs (number_at 16 bytes))
    ∷ None
    ∷ met (ltb 65536 (number_at 20 bytes)) (TextLength (number_at 20 bytes))
    ∷ []

-- its numbers are within their limits, and its text is there
record IsRight (bytes : List ℕ) : Type 0 where
  least_shares : 2 ≤ number_at 12 bytes
  most_shares : number_at 12 bytes ≤ 16
  least_proofs : 1 ≤ number_at 16 bytes
  most_proofs : number_at 16 bytes ≤ 16
  text : number_at 20 bytes ≤ 65536
  whole : number_at 20 bytes ≤ length (drop 28 bytes)

right-head : (bytes : List ℕ) → head_fault job_letters 28 None bytes ≡ None → IsRight bytes
right-head bytes none =
    let tried : List (Option BatchFault) = ended 0 28 bytes ∷ numbers_fault job_letters 1 None bytes ∷ ended 28 (text_end 28 bytes) (drop 28 bytes) ∷ [] in
    let numbers : first_of (numbers_tried bytes) ≡ None = none-at tried 1 none in
    let reaches : text_end 28 bytes ≤ 28 + length (drop 28 bytes) = none-short 28 (text_end 28 bytes) (drop 28 bytes) (none-at tried 2 none) in
    record {
      least_shares = none-above (number_at 12 bytes) 2 (Shares (number_at 12 bytes)) (none-at (numbers_tried bytes) 3 numbers);
      most_shares = none-above 16 (number_at 12 bytes) (Shares (number_at 12 bytes)) (none-at (numbers_tried bytes) 4 numbers);
      least_proofs = none-above (number_at 16 bytes) 1 (Proofs (number_at 16 bytes)) (none-at (numbers_tried bytes) 5 numbers);
      most_proofs = none-above 16 (number_at 16 bytes) (Proofs (number_at 16 bytes)) (none-at (numbers_tried bytes) 6 numbers);
      text = none-above 65536 (number_at 20 bytes) (TextLength (number_at 20 bytes)) (none-at (numbers_tried bytes) 8 numbers);
      whole = omega (arith, reaches);
    }

-- ---- the file

module _ (bounded : LoadedIsBounded) (rules : Rules) (bytes : List ℕ) (by : JobSetting) (good : IsGoodFile rules bytes by) where
  has : HasSetting (job_files rules.written) bytes by.params by
  has = good.is_file.has

  right : IsRight bytes
  right = right-head bytes has.head

  pub is_sound : IsSound by
  is_sound = record {
    setting = IsSetting-from rules.written (job_header_of bytes) by (circuit-of (job_header_of bytes).text by.params by.circuit has.text) has.fits.shape right.least_shares;
    bounded = bounded (job_header_of bytes).text by.params by.circuit has.text;
  }

  abbrev before : ℕ
  before = text_end 28 bytes

  abbrev count : ℕ
  count = number_at 24 bytes

  abbrev rest : List ℕ
  rest = drop (text_end 28 bytes) bytes

  -- what is tried behind the head: the sizes, and then the jobs
  abbrev tried : List (Option BatchFault)
  tried =
      head_fault job_letters 28 None bytes
      ∷ job_large_fault by.shape before count
      ∷ jobs_fault by.shape before count rest
      ∷ []

  abbrev jobs_tried : List (Option BatchFault)
  jobs_tried =
      ended before (before + count * job_bytes_of by.shape) rest
      ∷ met (ltb (before + count * job_bytes_of by.shape) (before + length rest)) Trailing
      ∷ word_fault by.shape 0 (jobs_of by.shape bytes)
      ∷ []

  jobs-none : first_of jobs_tried ≡ None
  jobs-none = none-at tried 2 good.is_file.no_fault

  whole : length rest ≡ count * job_bytes_of by.shape
  whole =
      let reaches : before + count * job_bytes_of by.shape ≤ before + length rest = none-short before (before + count * job_bytes_of by.shape) rest (none-at jobs_tried 0 jobs-none) in
      let within : before + length rest ≤ before + count * job_bytes_of by.shape =
      none-above (before + count * job_bytes_of by.shape) (before + length rest) Trailing (none-at jobs_tried 1 jobs-none) in
      omega (arith, reaches, within)

  words : word_fault by.shape 0 (jobs_of by.shape bytes) ≡ None
  words = none-at jobs_tried 2 jobs-none

  cut : IsCut (job_bytes_of by.shape) count rest (jobs_of by.shape bytes)
  cut = IsCut-pieces (job_bytes_of by.shape) count rest whole

  -- each job is good under the joint words by which it is judged
  pub jobs-good : All (λ job. IsGood by (judged_under rules.joints (first_job (jobs_of by.shape bytes)) job) job) (jobs_of by.shape bytes)
  jobs-good =
      λ (k : ℕ) (none : List ℕ) (below : k < length (jobs_of by.shape bytes)).
      let jobs = jobs_of by.shape bytes in
      let job = get_or jobs k none in
      let at = slice_get-get_or jobs k none below in
      record { size = cut.sizes k none below; words = words-good by.shape 0 k jobs job words at; place = place-good rules.joints by k jobs job good.all_good at }

  -- ---- the batch that its jobs make

  abbrev header : Header
  header = made_header (job_header_of bytes)

  length-text : length header.text ≡ number_at 20 bytes
  length-text = length-take-le (number_at 20 bytes) (drop 28 bytes) right.whole

  -- what is tried of the sizes, in this order
  abbrev sizes_tried : List (Option BatchFault)
  sizes_tried =
      met (ltb 16777216 (job_bytes_of by.shape)) (TooLarge (job_bytes_of by.shape))
      ∷ met (ltb 16777216 (made_bytes_of by.shape)) (TooLarge (made_bytes_of by.shape))
      ∷ met (ltb 1073741824 (before + count * job_bytes_of by.shape)) (TooLarge (before + count * job_bytes_of by.shape))
      ∷ (if by.shape.written then met (ltb 1073741824 (before + 4 + count * made_bytes_of by.shape)) (TooLarge (before + 4 + count * made_bytes_of by.shape)) else None)
      ∷ []

  sizes-none : first_of sizes_tried ≡ None
  sizes-none = none-at tried 1 good.is_file.no_fault

  -- the batch's own sizes are within its limits
  made-small : made_bytes_of by.shape ≤ 16777216
  made-small = none-above 16777216 (made_bytes_of by.shape) (TooLarge (made_bytes_of by.shape)) (none-at sizes_tried 1 sizes-none)

  file-small : before + count * job_bytes_of by.shape ≤ 1073741824
  file-small =
      none-above 1073741824 (before + count * job_bytes_of by.shape) (TooLarge (before + count * job_bytes_of by.shape)) (none-at sizes_tried 2 sizes-none)

  fits : large_fault (made_shape by) header.claims ≡ None
  fits =
      let outs : width_of (made_shape by) ≤ 65536 = omega (arith, outs-few (job_header_of bytes).text by.params by.circuit has.text) in
      rw (le-ltb 16777216 (made_bytes_of by.shape) made-small, le-ltb 65536 (width_of (made_shape by)) outs) refl

  -- few jobs are within the limit, since each has 16 bytes or more
  few : count < 2 ^ 32
  few =
      let least : count * 16 ≤ count * job_bytes_of by.shape = mul-le-mul_left count (omega arith) in
      omega (arith, least, file-small)

  writable : (party : Option ℕ) → IfSome party (λ p. p < by.shape.shares) → IsWritable newest_read party header
  writable party own =
      let P : ℕ → Type 0 = λ n. IfSome party (λ p. p < n) in
      record {
        newest_is = omega arith;
        limits = record {
          least_version = omega arith;
          most_version = omega arith;
          least_shares = right.least_shares;
          most_shares = right.most_shares;
          least_proofs = right.least_proofs;
          most_proofs = right.most_proofs;
          own_share = subst P has.fits.shape.of_record.shares own;
          text = omega (arith, length-text, right.text);
          least_buckets = omega arith;
          most_buckets = omega arith;
          one_bucket = λ _. refl;
        };
        claims = omega arith;
        reports = few;
      }

-- ---- the batch that is made of it

module _ (bounded : LoadedIsBounded) (bytes : List ℕ) (by : JobSetting) (provable : IsProvable bytes by) where
  abbrev records : List (List ℕ)
  records = map (record_made by) (jobs_of by.shape bytes)

  records-long : All (λ r. length r ≡ made_bytes_of by.shape) records
  records-long =
      All-map (λ r. length r ≡ made_bytes_of by.shape) (record_made by) (jobs_of by.shape bytes)
      (All-weaker (λ job. IsGood by job job) (λ job. length (record_made by job) ≡ made_bytes_of by.shape)
      (λ job good. length-record by job (is_sound bounded prove_rules bytes by provable) good) (jobs_of by.shape bytes) (jobs-good bounded prove_rules bytes by provable))

  records-many : length records ≡ number_at 24 bytes
  records-many = length-map (jobs_of by.shape bytes) (record_made by) ∙ (cut bounded prove_rules bytes by provable).number

  pub reads-back : (party : Option ℕ) → IfSome party (λ p. p < by.shape.shares) → ReadsBack party by bytes
  reads-back party own =
      let has = provable.is_file.has in
      let written =
      batch_written party (job_header_of bytes) by.params by.circuit (made_shape by) records (writable bounded prove_rules bytes by provable party own)
      has.text has.fits.shape.of_record (fits bounded prove_rules bytes by provable) records-long records-many in
      record { is_batch = written.is_batch; records = written.records_are }

-- ---- the laws

pub records_are_honest : LoadedIsBounded → RecordsAreHonest
records_are_honest bounded bytes by provable =
    All-weaker (λ job. IsGood by job job) (IsHonestlyMade by) (λ job good. honestly_made by job (is_sound bounded prove_rules bytes by provable) good) (jobs_of by.shape bytes)
    (jobs-good bounded prove_rules bytes by provable)

pub batches_read_back : LoadedIsBounded → BatchesReadBack
batches_read_back bounded party bytes by provable own = reads-back bounded bytes by provable party own
