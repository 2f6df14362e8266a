-- The trial of a circuit, from its batch to its text.
use Rattle.std.proofs.Common.{ℕ, ◌≡◌, ◌<◌, ◌^◌, List, length, Option, None, sym, ap, subst, ◌∙◌}
use Rattle.flp_syntax.specs.declared.syntax.Params.{Params}
use Rattle.flp_syntax.specs.Tree.{Program}
use Rattle.flp_load.specs.Loaded.{IsLoaded}
use Rattle.flp_batch.specs.declared.fault.EngineFault.{EngineFault}
use Rattle.flp_batch.specs.declared.fault.EngineFault.TheVariants.{Memory}
use Rattle.flp_batch.specs.File.{IsBatch}
use Rattle.flp_verify.specs.declared.counted.Summary.{Summary}
use Rattle.flp_verify.specs.Numbers.{counts_in}
use Rattle.flp_verify.specs.Reply.{records_on}
use Rattle.flp_generator.specs.Batch.{trial_records, trial_batch, too_large}
use Rattle.flp_generator.specs.Laws.{trial_setting, TrialsAreBatches}
use Rattle.flp_trial.specs.Text.{summary_lines, summary_text, trial_text}
use Rattle.flp_trial.specs.Summary.{Summarizes}
use Rattle.flp_trial.specs.Reply.{size_fault, FailsToTry}
use Rattle.flp_trial.proofs.SizeLemmas.{none-mapped}

-- the bytes that were made are a batch, with the records of all places
pub record IsMade (params : Option Params) (circuit : Program) (seed reports : ℕ) (batch : List ℕ) : Type 0 where
  pub is : IsBatch None batch params (trial_setting params circuit)
  pub records : records_on batch (trial_setting params circuit) ≡ trial_records params circuit seed reports

pub is_made : TrialsAreBatches → (text : List ℕ) (params : Option Params) (circuit : Program) (seed reports : ℕ) (batch : List ℕ) → IsLoaded text params circuit → reports < 2 ^ 32
    → size_fault circuit text reports ≡ None → batch ≡ trial_batch text params circuit seed reports → IsMade params circuit seed reports batch
is_made law text params circuit seed reports batch loaded few fits same =
    let made = law text params circuit seed reports loaded few (none-mapped _ (too_large circuit (length text) reports) fits) in
    subst (IsMade params circuit seed reports) (sym same) (record { is = made.is_batch; records = made.records })

-- the lines of its summary are the text of the trial
pub text-of : (params : Option Params) (circuit : Program) (seed reports : ℕ) (batch : List ℕ) (summary : Summary) → IsMade params circuit seed reports batch
    → Summarizes (trial_setting params circuit) (records_on batch (trial_setting params circuit)) summary
    → summary_lines (counts_in summary.numbers) summary.totals ≡ trial_text params circuit seed reports
text-of params circuit seed reports batch summary made says =
    (λ i. summary_lines (says.numbers i) (says.totals i)) ∙ ap (summary_text (trial_setting params circuit)) made.records

-- want of memory says nothing
pub no-memory : (circuit : Program) (text : List ℕ) (reports : ℕ) (fault : EngineFault) → fault ≡ Memory → FailsToTry circuit text reports fault
no-memory circuit text reports fault is = subst (FailsToTry circuit text reports) (sym is) tt
