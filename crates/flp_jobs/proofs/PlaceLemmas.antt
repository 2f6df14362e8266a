-- The search for a bad place, and what follows where there is none.
use Rattle.std.proofs.Common.{◌≡◌, ℕ, zero, suc, ◌+◌, ◌-◌, ◌<◌, ◌≤◌, List, [], ◌∷◌, length, drop, get_or, Option, Some, None, refl, sym, ap, subst, ◌∙◌, arith}
use Rattle.std.specs.List.{slice_get, range_with_len}
use Rattle.std.specs.Option.{option_map, option_or}
use Rattle.std.proofs.lemmas.List.{drop_more, drop_all}
use Rattle.std.proofs.lemmas.Option.{get_or_from_slice_get, slice_get_within}
use Rattle.flp_circuits.specs.declared.fault.MeasFault.{MeasFault}
use Rattle.flp_circuits.specs.declared.fault.MeasFault.TheVariants as meas
use Rattle.flp_report.specs.declared.fault.BatchFault.{BatchFault}
use Rattle.flp_report.specs.declared.job_shape.JobShape.{JobShape}
use Rattle.flp_report.specs.Job.{job_bad_word, word_or, word_fault}
use Rattle.flp_jobs.specs.declared.fault.PlaceFault.{PlaceFault}
use Rattle.flp_jobs.specs.declared.fault.PlaceFault.TheVariants.{Check}
use Rattle.flp_jobs.specs.declared.rules.Joints.{Joints}
use Rattle.flp_batch.specs.JobSetting.{JobSetting}
use Rattle.flp_jobs.specs.Encoding.{job_joint, job_encoding}
use Rattle.flp_meaning.specs.Circuit.{failing_check}
use Rattle.flp_jobs.specs.Place.{check_fault, first_check, refused_or, place_fault, judged_under, place_or, bad_from, first_job, bad_place}

module _ (joints : Joints) (by : JobSetting) (jobs : List (List ℕ)) where
  abbrev first : List ℕ
  first = first_job jobs

  -- the search from the job of this number on
  abbrev pub bad_behind : ℕ → Option (ℕ × PlaceFault)
  bad_behind k = bad_from joints by first k (drop k jobs)

  -- one step
  bad-step : (k : ℕ) (under job : List ℕ) → slice_get jobs k ≡ Some job → under ≡ judged_under joints first job
      → bad_behind k ≡ place_or k (place_fault by under job) (bad_behind (k + 1))
  bad-step k under job at is =
      let own : get_or jobs k [] ≡ job = get_or_from_slice_get jobs k job [] at in
      let next : suc k ≡ k + 1 = omega arith in
      ap (λ (l : List (List ℕ)). bad_from joints by first k l) (drop_more jobs k [] (slice_get_within jobs k job at))
      ∙ (ap (λ (j : List ℕ). place_or k (place_fault by (judged_under joints first j) j) (bad_from joints by first (suc k) (drop (k + 1) jobs))) own
      ∙ (ap (λ (u : List ℕ). place_or k (place_fault by u job) (bad_from joints by first (suc k) (drop (k + 1) jobs))) (sym is)
      ∙ ap (λ (n : ℕ). place_or k (place_fault by under job) (bad_from joints by first n (drop (k + 1) jobs))) next))

  -- at a good place it goes on
  pub bad-more : (k : ℕ) (under job : List ℕ) → slice_get jobs k ≡ Some job → under ≡ judged_under joints first job → place_fault by under job ≡ None
      → bad_behind k ≡ bad_behind (k + 1)
  bad-more k under job at is good = bad-step k under job at is ∙ ap (λ (o : Option PlaceFault). place_or k o (bad_behind (k + 1))) good

  -- at a bad one it ends
  pub bad-here : (k : ℕ) (under job : List ℕ) (fault : PlaceFault) → slice_get jobs k ≡ Some job → under ≡ judged_under joints first job
      → place_fault by under job ≡ Some fault → bad_behind k ≡ Some (k, fault)
  bad-here k under job fault at is bad = bad-step k under job at is ∙ ap (λ (o : Option PlaceFault). place_or k o (bad_behind (k + 1))) bad

  -- past the last job there is none
  pub bad-end : (k : ℕ) → length jobs ≤ k → bad_behind k ≡ None
  bad-end k all = ap (λ (l : List (List ℕ)). bad_from joints by first k l) (drop_all k jobs all)

-- ---- where no place is bad

place_or-none : (place : ℕ) (fault : Option PlaceFault) (rest : Option (ℕ × PlaceFault)) → place_or place fault rest ≡ None → (fault ≡ None) × (rest ≡ None)
place_or-none place None rest none = (refl, none)
place_or-none place (Some fault) rest none = let no : ⊥ = cc in absurd no

-- that of each of the jobs from a place on is good
good-from : (joints : Joints) (by : JobSetting) (first : List ℕ) (place k : ℕ) (jobs : List (List ℕ)) (job : List ℕ) → bad_from joints by first place jobs ≡ None
    → slice_get jobs k ≡ Some job → place_fault by (judged_under joints first job) job ≡ None
good-from joints by first place k [] job none at = let no : ⊥ = cc in absurd no
good-from joints by first place zero (head ∷ more) job none at =
    let same : head ≡ job = cc in
    let P : List ℕ → Type 0 = λ j. place_fault by (judged_under joints first j) j ≡ None in
    subst P same (place_or-none place (place_fault by (judged_under joints first head) head) (bad_from joints by first (suc place) more) none).0
good-from joints by first place (suc k) (head ∷ more) job none at =
    good-from joints by first (suc place) k more job
    (place_or-none place (place_fault by (judged_under joints first head) head) (bad_from joints by first (suc place) more) none).1 at

-- that of each job
pub place-good : (joints : Joints) (by : JobSetting) (k : ℕ) (jobs : List (List ℕ)) (job : List ℕ) → bad_place joints by jobs ≡ None → slice_get jobs k ≡ Some job
    → place_fault by (judged_under joints (first_job jobs) job) job ≡ None
place-good joints by k jobs job none at = good-from joints by (first_job jobs) 0 k jobs job none at

-- no measurement is refused there, where no job has another count of numbers
pub refused_or-none : (refused : Option MeasFault) (rest : Option PlaceFault) → ((count : ℕ) → refused ≡ Some (meas.Count count) → ⊥) → refused_or refused rest ≡ None
    → (refused ≡ None) × (rest ≡ None)
refused_or-none None rest counted none = (refl, none)
refused_or-none (Some (meas.Count count)) rest counted none = absurd (counted count refl)
refused_or-none (Some (meas.Range number value)) rest counted none = let no : ⊥ = cc in absurd no
refused_or-none (Some (meas.Weight weight)) rest counted none = let no : ⊥ = cc in absurd no

-- ---- where no job has a bad word

word_or-none : (place : ℕ) (word : Option ℕ) (rest : Option BatchFault) → word_or place word rest ≡ None → (word ≡ None) × (rest ≡ None)
word_or-none place None rest none = (refl, none)
word_or-none place (Some word) rest none = let no : ⊥ = cc in absurd no

-- each job has none
pub words-good : (s : JobShape) (place k : ℕ) (jobs : List (List ℕ)) (job : List ℕ) → word_fault s place jobs ≡ None → slice_get jobs k ≡ Some job → job_bad_word s job ≡ None
words-good s place k [] job none at = let no : ⊥ = cc in absurd no
words-good s place zero (first ∷ more) job none at =
    let same : first ≡ job = cc in
    let P : List ℕ → Type 0 = λ j. job_bad_word s j ≡ None in
    subst P same (word_or-none place (job_bad_word s first) (word_fault s (suc place) more) none).0
words-good s place (suc k) (first ∷ more) job none at =
    words-good s (suc place) k more job (word_or-none place (job_bad_word s first) (word_fault s (suc place) more) none).1 at

-- ---- the checks of one job

module _ (by : JobSetting) (under job : List ℕ) where
  -- the search from the proof of this number on
  abbrev pub check_from : (proof proofs : ℕ) → Option PlaceFault
  check_from proof proofs = first_check by under job (range_with_len proof (proofs - proof))

  -- one step
  check-step : (proof proofs : ℕ) → proof < proofs → check_from proof proofs ≡ option_or (check_fault by under job proof) (check_from (proof + 1) proofs)
  check-step proof proofs below =
      let count : proofs - proof ≡ suc (proofs - (proof + 1)) = omega arith in
      ap (λ (n : ℕ). first_check by under job (range_with_len proof n)) count

  -- at a proof under whose joint words no check is found it goes on
  pub check-more : (proof proofs : ℕ) (found : Option ℕ) → proof < proofs
      → found ≡ failing_check by.circuit (job_encoding by job) (job_joint by.shape under proof) → found ≡ None
      → check_from proof proofs ≡ check_from (proof + 1) proofs
  check-more proof proofs found below same none =
      check-step proof proofs below
      ∙ ap (λ (o : Option ℕ). option_or (option_map (λ check. Check check proof) o) (check_from (proof + 1) proofs)) (sym same ∙ none)

  -- at another it ends
  pub check-here : (proof proofs : ℕ) (found : Option ℕ) (check : ℕ) → proof < proofs
      → found ≡ failing_check by.circuit (job_encoding by job) (job_joint by.shape under proof) → found ≡ Some check
      → check_from proof proofs ≡ Some (Check check proof)
  check-here proof proofs found check below same some =
      check-step proof proofs below
      ∙ ap (λ (o : Option ℕ). option_or (option_map (λ check. Check check proof) o) (check_from (proof + 1) proofs)) (sym same ∙ some)

  -- past the last proof there is none
  pub check-end : (proof proofs : ℕ) → proofs ≤ proof → check_from proof proofs ≡ None
  check-end proof proofs all =
      let none : proofs - proof ≡ 0 = omega arith in
      ap (λ (n : ℕ). first_check by under job (range_with_len proof n)) none
