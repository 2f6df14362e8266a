-- What is made is a batch, of the circuit of its text and with the records of all places; and its points lie in no domain.
use Rattle.std.specs.Prelude.{ℕ, ◌+◌, ◌≡◌, ◌≢◌, ◌<◌, ◌≤◌, ◌^◌, List, [], Option, None, length}
use Rattle.flp_field.specs.Word.{word_power}
use Rattle.flp_syntax.specs.declared.syntax.Params.{Params}
use Rattle.flp_syntax.specs.Tree.{Program}
use Rattle.flp_load.specs.Loaded.{IsLoaded}
use Rattle.flp_report.specs.Batch.{whole_records}
use Rattle.flp_batch.specs.Setting.{Setting}
use Rattle.flp_batch.specs.Format.{newest_read}
use Rattle.flp_batch.specs.File.{IsBatch}
use Rattle.flp_generator.specs.Sequence.{sequence_word}
use Rattle.flp_generator.specs.Batch.{trial_shape, trial_records, trial_batch, too_large}

-- what its records are judged by
abbrev pub trial_setting : Option Params → Program → Setting
trial_setting params circuit = record { params = params; circuit = circuit; shape = trial_shape circuit; claims = [] }

pub record IsTrialBatch (text : List ℕ) (params : Option Params) (circuit : Program) (seed reports : ℕ) : Type 0 where
  pub is_batch : IsBatch None (trial_batch text params circuit seed reports) params (trial_setting params circuit)
  pub records : whole_records newest_read None (trial_shape circuit) (trial_batch text params circuit seed reports) ≡ trial_records params circuit seed reports

-- where it is not too large
abbrev pub TrialsAreBatches : Type 0
TrialsAreBatches =
    (text : List ℕ) (params : Option Params) (circuit : Program) (seed reports : ℕ) → IsLoaded text params circuit
    → reports < 2 ^ 32 → too_large circuit (length text) reports ≡ None
    → IsTrialBatch text params circuit seed reports

-- a word of the sequence with an exponent of at most 2^50 lies in no domain that a gadget can have
abbrev pub WordsStayOut : Type 0
WordsStayOut = (seed index size : ℕ) → seed + 1 + index ≤ 2 ^ 50 → 1 ≤ size → size ≤ 4096 → word_power (sequence_word seed index) size ≢ 1
