-- What `lengths` makes of the bytes of a whole input, and what a run of it did. From the bytes up.
use Rattle.std.specs.Prelude.{ℕ, List, Option}
use Rattle.std.specs.Io.KnownBytes.{Appends, Keeps}
use Rattle.flp_io.specs.Writes.{TakesPrefix}
use Rattle.flp_syntax.specs.declared.syntax.Params.{Params}
use Rattle.flp_syntax.specs.Tree.{Program}
use Rattle.flp_batch.specs.declared.fault.EngineFault.{EngineFault}
use Rattle.flp_batch.specs.declared.fault.EngineFault.TheVariants.{Memory, Read, Write, Batch, Circuit}
use Rattle.flp_load.specs.Fault.{IsCircuitFault}
use Rattle.flp_lengths.specs.Reading.{judged_text, ReadsCircuit, ReadsFault}
use Rattle.flp_lengths.specs.Text.{lengths_text}

-- the input was read to its end and is a circuit, and the output grew by exactly its lengths
pub record WritesLengths (left left' taken taken' : Option (List ℕ)) : Type 0 where
  pub text : List ℕ
  pub params : Option Params
  pub circuit : Program
  pub read : ReadsCircuit left left' text params circuit
  pub written : Appends taken taken' (lengths_text circuit)

-- the input was read to its end and is a circuit, and the output grew by a prefix of its lengths
pub record StopsInLengths (left left' taken taken' : Option (List ℕ)) : Type 0 where
  pub text : List ℕ
  pub params : Option Params
  pub circuit : Program
  pub read : ReadsCircuit left left' text params circuit
  pub written : TakesPrefix taken taken' (lengths_text circuit)

-- what was written by the time of this fault: after a failed write a prefix of the lengths, and else nothing
abbrev pub StopsBy : EngineFault → (left left' taken taken' : Option (List ℕ)) → Type 0
StopsBy Memory left left' taken taken' = Keeps taken taken'
StopsBy Read left left' taken taken' = Keeps taken taken'
StopsBy Write left left' taken taken' = StopsInLengths left left' taken taken'
StopsBy (Batch fault) left left' taken taken' = ⊥
StopsBy (Circuit fault) left left' taken taken' = Keeps taken taken' × ReadsFault left left' fault

-- the text of these bytes has this fault
abbrev pub IsFaultOfText : List ℕ → EngineFault → Type 0
IsFaultOfText bytes (Circuit fault) = IsCircuitFault (judged_text bytes) fault
IsFaultOfText bytes (Batch fault) = ⊥
IsFaultOfText bytes Memory = ⊥
IsFaultOfText bytes Read = ⊥
IsFaultOfText bytes Write = ⊥
