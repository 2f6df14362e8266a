-- What is found at the places of a circuit's trial, whichever circuit it is. From the verdict at a place up to the law.
use Rattle.std.specs.Prelude.{ℕ, ◌≡◌, ◌+◌, ◌*◌, ◌%◌, ◌^◌, ◌<◌, List, [], Option, None, Some}
use Rattle.flp_syntax.specs.declared.syntax.Params.{Params}
use Rattle.flp_syntax.specs.Tree.{Program}
use Rattle.flp_meaning.specs.Circuit.{IsValid, calls_of, direct, with_answers}
use Rattle.flp_plan.specs.Counted.{counted_lengths}
use Rattle.flp_load.specs.Loaded.{IsLoaded}
use Rattle.flp_policy.specs.declared.verdict.Verdict.{Verdict}
use Rattle.flp_policy.specs.declared.verdict.Verdict.TheVariants.{Accepted, Rejected, InDomain, Malformed, Replayed}
use Rattle.flp_verdict.specs.Laws.{verdict_at}
use Rattle.flp_generator.specs.Sequence.{words_taken, joint_taken}
use Rattle.flp_generator.specs.Input.{trial_encoding}
use Rattle.flp_generator.specs.Batch.{trial_shape, trial_records}
use Rattle.flp_generator.specs.Laws.{trial_setting}
use Rattle.flp_trial.specs.Text.{counts_by}
use Rattle.flp_trial.specs.Reply.{size_fault}

-- the text is loaded as this circuit, and its batch of so many reports is not too large
pub record IsTried (text : List ℕ) (params : Option Params) (circuit : Program) (seed reports : ℕ) : Type 0 where
  pub loaded : IsLoaded text params circuit
  pub fits : size_fault circuit text reports ≡ None
  pub small_seed : seed < 2 ^ 32
  pub few_reports : reports < 2 ^ 32

-- the verdict at a place
abbrev pub trial_verdict : Option Params → Program → (seed reports place : ℕ) → Verdict
trial_verdict params circuit seed reports place = verdict_at circuit (trial_shape circuit) [] (trial_records params circuit seed reports) place

-- what is encoded there is valid under the joint words that the place takes
abbrev pub IsValidAt : Option Params → Program → (seed place : ℕ) → Type 0
IsValidAt params circuit seed place =
    IsValid circuit (trial_encoding params (counted_lengths circuit).meas (seed + place)) (joint_taken (counted_lengths circuit) (words_taken (counted_lengths circuit) seed place))

-- no answer enters the inputs of a call: whatever the calls are answered, they are those of the direct reading
abbrev pub CallsStand : Program → Type 0
CallsStand circuit = (x joint answers : List ℕ) → calls_of circuit (with_answers x joint 1 answers) ≡ calls_of circuit (direct circuit x joint)

-- of eight places in a row the first four are accepted where they encode what is valid; and of the others the first is rejected
-- where no answer enters a call, the second is in the domain of gadget 0, the third is malformed at word 0, and the last is
-- replayed
pub record FindsAt (params : Option Params) (circuit : Program) (seed reports place : ℕ) : Type 0 where
  pub honest : place % 8 < 4 → IsValidAt params circuit seed place → trial_verdict params circuit seed reports place ≡ Accepted
  pub proof : place % 8 ≡ 4 → CallsStand circuit → trial_verdict params circuit seed reports place ≡ Rejected
  pub point : place % 8 ≡ 5 → trial_verdict params circuit seed reports place ≡ InDomain 0 0
  pub word : place % 8 ≡ 6 → trial_verdict params circuit seed reports place ≡ Malformed 0
  pub nonce : place % 8 ≡ 7 → trial_verdict params circuit seed reports place ≡ Replayed

abbrev pub PlacesAreFound : Type 0
PlacesAreFound =
    (text : List ℕ) (params : Option Params) (circuit : Program) (seed reports place : ℕ) → IsTried text params circuit seed reports → place < reports
    → FindsAt params circuit seed reports place

-- what a standard circuit's place encodes is always valid
abbrev pub StandardIsValid : Type 0
StandardIsValid =
    (text : List ℕ) (params : Params) (circuit : Program) (seed place : ℕ) → IsLoaded text (Some params) circuit → IsValidAt (Some params) circuit seed place

-- and no answer enters its calls
abbrev pub StandardCallsStand : Type 0
StandardCallsStand = (text : List ℕ) (params : Params) (circuit : Program) → IsLoaded text (Some params) circuit → CallsStand circuit

-- so of eight times so many places of a standard circuit half are accepted, and an eighth has each other verdict
abbrev pub EighthsAreFound : Type 0
EighthsAreFound =
    (text : List ℕ) (params : Params) (circuit : Program) (seed eighths : ℕ) → IsTried text (Some params) circuit seed (8 * eighths)
    → counts_by (trial_setting (Some params) circuit) (trial_records (Some params) circuit seed (8 * eighths))
    ≡ record { accepted = 4 * eighths; rejected = eighths; in_domain = eighths; malformed = eighths; replayed = eighths }

-- what is found of all circuits, and of the standard ones
pub record TrialsAreFound : Type 0 where
  pub places : PlacesAreFound
  pub valid : StandardIsValid
  pub stand : StandardCallsStand
  pub eighths : EighthsAreFound
