-- What a run of `trial` says of its input and its output, from what its steps say.
use Rattle.std.proofs.Common.{◌≡◌, ℕ, List, Option, Some, None, subst}
use Rattle.std.specs.Prelude.{IfSome}
use Rattle.std.specs.Io.KnownBytes.{Keeps}
use Rattle.flp_syntax.specs.declared.syntax.Params.{Params}
use Rattle.flp_syntax.specs.Tree.{Program}
use Rattle.flp_report.specs.declared.fault.BatchFault.{BatchFault}
use Rattle.flp_load.specs.Loaded.{IsLoaded}
use Rattle.flp_batch.specs.declared.fault.EngineFault.{EngineFault}
use Rattle.flp_batch.specs.declared.fault.EngineFault.TheVariants.{Memory, Read, Write, Batch, Circuit}
use Rattle.flp_batch.specs.Fault.{IfFile}
use Rattle.flp_lengths.specs.Reading.{ReadsCircuit, FailsToRead}
use Rattle.flp_lengths.proofs.ReadingLemmas as reading
use Rattle.flp_trial.specs.Reply.{size_fault, FailsToTry, IsTooLarge, IsFaultOfTrial, StopsBy}

-- ---- where no circuit was read

pub stops_unread :
    (seed reports : ℕ) (left left' taken taken' : Option (List ℕ)) (fault : EngineFault) → FailsToRead fault left left' → Keeps taken taken'
    → StopsBy seed reports fault left left' taken taken'
stops_unread seed reports left left' taken taken' Memory failed kept = kept
stops_unread seed reports left left' taken taken' Read failed kept = kept
stops_unread seed reports left left' taken taken' Write failed kept = absurd failed
stops_unread seed reports left left' taken taken' (Batch fault) failed kept = absurd failed
stops_unread seed reports left left' taken taken' (Circuit fault) failed kept = (kept, failed)

pub told_unread : (reports : ℕ) (left left' : Option (List ℕ)) (fault : EngineFault) → FailsToRead fault left left' → IfFile fault (λ f. IfSome left (λ bytes. IsFaultOfTrial reports bytes f))
told_unread reports left left' Memory failed = tt
told_unread reports left left' Read failed = tt
told_unread reports left left' Write failed = tt
told_unread reports left left' (Batch fault) failed = absurd failed
told_unread reports left left' (Circuit fault) failed = reading.fault_told left left' (Circuit fault) failed

-- ---- where no trial was made of one

module _ (reports : ℕ) (left left' : Option (List ℕ)) (text : List ℕ) (params : Option Params) (circuit : Program) (read : ReadsCircuit left left' text params circuit) where
  pub stops_untried : (seed : ℕ) (taken taken' : Option (List ℕ)) (fault : EngineFault) → FailsToTry circuit text reports fault → Keeps taken taken' → StopsBy seed reports fault left left' taken taken'
  stops_untried seed taken taken' Memory failed kept = kept
  stops_untried seed taken taken' Read failed kept = absurd failed
  stops_untried seed taken taken' Write failed kept = absurd failed
  stops_untried seed taken taken' (Batch fault) failed kept = (kept, record { source = text; params = params; circuit = circuit; read = read; large = failed })
  stops_untried seed taken taken' (Circuit fault) failed kept = absurd failed

too_large_told : (reports : ℕ) (left left' : Option (List ℕ)) (text : List ℕ) (params : Option Params) (circuit : Program) (fault : BatchFault) → ReadsCircuit left left' text params circuit
    → size_fault circuit text reports ≡ Some fault → IfSome left (λ bytes. IsTooLarge reports bytes fault)
too_large_told reports None left' text params circuit fault read large = tt
too_large_told reports (Some bytes) left' text params circuit fault read large = record {
  params = params;
  circuit = circuit;
  loaded = subst (λ (t : List ℕ). IsLoaded t params circuit) read.read.front read.loaded;
  large = subst (λ (t : List ℕ). size_fault circuit t reports ≡ Some fault) read.read.front large;
}

pub told_untried : (reports : ℕ) (left left' : Option (List ℕ)) (text : List ℕ) (params : Option Params) (circuit : Program) (fault : EngineFault) → ReadsCircuit left left' text params circuit
    → FailsToTry circuit text reports fault → IfFile fault (λ f. IfSome left (λ bytes. IsFaultOfTrial reports bytes f))
told_untried reports left left' text params circuit Memory read failed = tt
told_untried reports left left' text params circuit Read read failed = tt
told_untried reports left left' text params circuit Write read failed = tt
told_untried reports left left' text params circuit (Batch fault) read failed = too_large_told reports left left' text params circuit fault read failed
told_untried reports left left' text params circuit (Circuit fault) read failed = absurd failed
