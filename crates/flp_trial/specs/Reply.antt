-- What `trial` makes of the bytes of a whole input, and what a run of it did with its input and its output. From the size of
-- the batch up.
use Rattle.std.specs.Prelude.{ℕ, ◌≡◌, List, Option, Some, None, length, ⊤}
use Rattle.std.specs.Option.{option_map}
use Rattle.std.specs.Io.KnownBytes.{Appends, Keeps}
use Rattle.flp_io.specs.Writes.{TakesPrefix}
use Rattle.flp_syntax.specs.declared.syntax.Params.{Params}
use Rattle.flp_syntax.specs.Tree.{Program}
use Rattle.flp_report.specs.declared.fault.BatchFault.{BatchFault}
use Rattle.flp_report.specs.declared.fault.BatchFault.TheVariants.{TooLarge}
use Rattle.flp_load.specs.Loaded.{IsLoaded}
use Rattle.flp_load.specs.Fault.{IsCircuitFault}
use Rattle.flp_batch.specs.declared.fault.EngineFault.{EngineFault}
use Rattle.flp_batch.specs.declared.fault.EngineFault.TheVariants.{Memory, Read, Write, Batch, Circuit}
use Rattle.flp_lengths.specs.Reading.{judged_text, ReadsCircuit, ReadsFault}
use Rattle.flp_generator.specs.Batch.{too_large}
use Rattle.flp_trial.specs.Text.{trial_text}

-- the fault of the batch of so many reports behind this text of the circuit: the first size that is above its limit, that of a
-- record or that of the batch, or none
abbrev pub size_fault : Program → (text : List ℕ) → (reports : ℕ) → Option BatchFault
size_fault circuit text reports = option_map TooLarge (too_large circuit (length text) reports)

-- why no text of a trial is made of a circuit: want of memory, or the fault of the batch
abbrev pub FailsToTry : Program → (text : List ℕ) → (reports : ℕ) → EngineFault → Type 0
FailsToTry circuit text reports Memory = ⊤
FailsToTry circuit text reports Read = ⊥
FailsToTry circuit text reports Write = ⊥
FailsToTry circuit text reports (Batch fault) = size_fault circuit text reports ≡ Some fault
FailsToTry circuit text reports (Circuit fault) = ⊥

-- ---- of the bytes of an input

-- their text is a circuit's, its batch is not too large, and this is the text of its trial
pub record IsTrial (seed reports : ℕ) (bytes text : List ℕ) : Type 0 where
  pub params : Option Params
  pub circuit : Program
  pub loaded : IsLoaded (judged_text bytes) params circuit
  pub fits : size_fault circuit (judged_text bytes) reports ≡ None
  pub made : text ≡ trial_text params circuit seed reports

-- their text is a circuit's, and its batch has this fault
pub record IsTooLarge (reports : ℕ) (bytes : List ℕ) (fault : BatchFault) : Type 0 where
  pub params : Option Params
  pub circuit : Program
  pub loaded : IsLoaded (judged_text bytes) params circuit
  pub large : size_fault circuit (judged_text bytes) reports ≡ Some fault

-- why they have no trial: the first fault of their text, or else that the batch is too large
abbrev pub IsFaultOfTrial : (reports : ℕ) → List ℕ → EngineFault → Type 0
IsFaultOfTrial reports bytes (Circuit fault) = IsCircuitFault (judged_text bytes) fault
IsFaultOfTrial reports bytes (Batch fault) = IsTooLarge reports bytes fault
IsFaultOfTrial reports bytes Memory = ⊥
IsFaultOfTrial reports bytes Read = ⊥
IsFaultOfTrial reports bytes Write = ⊥

-- ---- of a run

-- the input was read to its end and is a circuit's text, its batch is not too large, and this holds of the text of its trial
pub record MakesTrial (seed reports : ℕ) (Written : (text : List ℕ) → Type 0) (left left' : Option (List ℕ)) : Type 0 where
  pub source : List ℕ
  pub params : Option Params
  pub circuit : Program
  pub read : ReadsCircuit left left' source params circuit
  pub fits : size_fault circuit source reports ≡ None
  pub written : Written (trial_text params circuit seed reports)

-- the output grew by exactly that text
abbrev pub WritesTrial : (seed reports : ℕ) → (left left' taken taken' : Option (List ℕ)) → Type 0
WritesTrial seed reports left left' taken taken' = MakesTrial seed reports (Appends taken taken') left left'

-- or by a prefix of it
abbrev pub StopsInTrial : (seed reports : ℕ) → (left left' taken taken' : Option (List ℕ)) → Type 0
StopsInTrial seed reports left left' taken taken' = MakesTrial seed reports (TakesPrefix taken taken') left left'

-- the input was read to its end and is a circuit's text, and its batch has this fault
pub record ReadsTooLarge (reports : ℕ) (left left' : Option (List ℕ)) (fault : BatchFault) : Type 0 where
  pub source : List ℕ
  pub params : Option Params
  pub circuit : Program
  pub read : ReadsCircuit left left' source params circuit
  pub large : size_fault circuit source reports ≡ Some fault

-- what was written by the time of this fault: after a failed write a prefix of the text, and else nothing
abbrev pub StopsBy : (seed reports : ℕ) → EngineFault → (left left' taken taken' : Option (List ℕ)) → Type 0
StopsBy seed reports Memory left left' taken taken' = Keeps taken taken'
StopsBy seed reports Read left left' taken taken' = Keeps taken taken'
StopsBy seed reports Write left left' taken taken' = StopsInTrial seed reports left left' taken taken'
StopsBy seed reports (Batch fault) left left' taken taken' = Keeps taken taken' × ReadsTooLarge reports left left' fault
StopsBy seed reports (Circuit fault) left left' taken taken' = Keeps taken taken' × ReadsFault left left' fault
