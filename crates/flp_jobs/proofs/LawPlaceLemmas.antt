-- What holds of a job whose place is not bad.
use Rattle.std.proofs.Common.{ℕ, zero, suc, ◌≡◌, ◌+◌, ◌<◌, ◌≤◌, List, Option, Some, None, refl, subst, ⊎_elim, inl, inr, arith}
use Rattle.std.specs.Prelude.{◌⊎◌}
use Rattle.std.specs.List.{range_with_len}
use Rattle.std.specs.Option.{option_map}
use Rattle.flp_meaning.specs.Circuit.{IsValid, failing_check}
use Rattle.flp_meaning.proofs.FailingLemmas.{none_fails-valid}
use Rattle.flp_circuits.proofs.EncodingLemmas.{option_or_none}
use Rattle.flp_batch.specs.JobSetting.{JobSetting}
use Rattle.flp_jobs.specs.Setting.{IsSetting}
use Rattle.flp_jobs.specs.Encoding.{job_input, job_joint, job_encoding, job_proofs}
use Rattle.flp_jobs.specs.Place.{check_fault, first_check, input_fault, place_fault}
use Rattle.flp_jobs.proofs.MeasLemmas.{job-counted}
use Rattle.flp_jobs.proofs.PlaceLemmas.{refused_or-none}

-- ---- nothing is refused

-- neither the measurement nor, under the joint words of any proof, a check
pub place-none : (by : JobSetting) (under job : List ℕ) → IsSetting by → place_fault by under job ≡ None
    → (input_fault by.params (job_input by.shape job) ≡ None) × (first_check by under job (job_proofs by.shape) ≡ None)
place-none by under job setting none =
    refused_or-none (input_fault by.params (job_input by.shape job)) (first_check by under job (job_proofs by.shape))
    (λ count. job-counted by job count setting) none

-- ---- the checks are 0

at_or_above : (start k : ℕ) → start ≤ k → (start ≡ k) ⊎ (start + 1 ≤ k)
at_or_above zero zero from = inl refl
at_or_above zero (suc k) from = let above : 0 + 1 ≤ suc k = omega arith in inr above
at_or_above (suc start) zero from = absurd (omega arith)
at_or_above (suc start) (suc k) from =
    let less : start ≤ k = omega arith in
    ⊎_elim (λ (same : start ≡ k). let more : suc start ≡ suc k = omega arith in inl more)
    (λ (above : start + 1 ≤ k). let more : suc start + 1 ≤ suc k = omega arith in inr more)
    (at_or_above start k less)

-- each proof has no check that is not 0
check-none : (by : JobSetting) (under job : List ℕ) (first count proof : ℕ) → first_check by under job (range_with_len first count) ≡ None → first ≤ proof → proof < first + count
    → check_fault by under job proof ≡ None
check-none by under job first zero proof none from below = absurd (omega arith)
check-none by under job first (suc count) proof none from below =
    let parts = option_or_none (check_fault by under job first) (first_check by under job (range_with_len (first + 1) count)) none in
    let P : ℕ → Type 0 = λ k. check_fault by under job k ≡ None in
    ⊎_elim
    (λ (same : first ≡ proof). subst P same parts.0)
    (λ (above : first + 1 ≤ proof). check-none by under job (first + 1) count proof parts.1 above (omega arith))
    (at_or_above first proof from)

map-none : {A B : Type 0} → (f : A → B) (o : Option A) → option_map f o ≡ None → o ≡ None
map-none f None none = refl
map-none f (Some a) none = let no : ⊥ = cc in absurd no

-- so the encoding is valid under the joint words of each proof
pub valid-none : (by : JobSetting) (under job : List ℕ) (proof : ℕ) → first_check by under job (job_proofs by.shape) ≡ None → proof < by.shape.proofs
    → IsValid by.circuit (job_encoding by job) (job_joint by.shape under proof)
valid-none by under job proof none below =
    let x = job_encoding by job in
    let joint = job_joint by.shape under proof in
    let own = check-none by under job 0 by.shape.proofs proof none (omega arith) (omega arith) in
    none_fails-valid by.circuit x joint (map-none _ (failing_check by.circuit x joint) own)
