-- How a circuit text is read from a source. From the bytes up.
use Rattle.std.specs.Prelude.{ℕ, ◌≡◌, ◌<◌, ◌≤◌, ⊤, List, length, take, Option, IfSome}
use Rattle.std.specs.Io.KnownBytes.{Consumes, IsAtEnd}
use Rattle.flp_syntax.specs.declared.syntax.Params.{Params}
use Rattle.flp_syntax.specs.Tree.{Program}
use Rattle.flp_load.specs.declared.fault.CircuitFault.{CircuitFault}
use Rattle.flp_batch.specs.declared.fault.EngineFault.{EngineFault}
use Rattle.flp_batch.specs.declared.fault.EngineFault.TheVariants.{Memory, Read, Write, Batch, Circuit}
use Rattle.flp_load.specs.Loaded.{IsLoaded}
use Rattle.flp_load.specs.Fault.{IsCircuitFault}

-- the bytes that are judged: one more than the longest text has
abbrev pub judged_text : List ℕ → List ℕ
judged_text bytes = take 65537 bytes

-- the text is the first 65,537 bytes of the input, or all of them where they are fewer, and no more was read
pub record ReadsText (left left' : Option (List ℕ)) (text : List ℕ) : Type 0 where
  pub read : Consumes left left' text
  pub few : length text ≤ 65537
  pub ended : length text < 65537 → IsAtEnd left'
  pub front : IfSome left (λ bytes. text ≡ judged_text bytes)

-- the input was read to its end, it is this text, and the text is loaded as this circuit
pub record ReadsCircuit (left left' : Option (List ℕ)) (text : List ℕ) (params : Option Params) (circuit : Program) : Type 0 where
  pub read : ReadsText left left' text
  pub ended : IsAtEnd left'
  pub loaded : IsLoaded text params circuit

-- the text that was read has this fault
pub record ReadsFault (left left' : Option (List ℕ)) (fault : CircuitFault) : Type 0 where
  pub text : List ℕ
  pub read : ReadsText left left' text
  pub refused : IsCircuitFault text fault

-- why no circuit was read: want of memory, a failed read, or the fault of the text that was read
abbrev pub FailsToRead : EngineFault → (left left' : Option (List ℕ)) → Type 0
FailsToRead Memory left left' = ⊤
FailsToRead Read left left' = ⊤
FailsToRead Write left left' = ⊥
FailsToRead (Batch fault) left left' = ⊥
FailsToRead (Circuit fault) left left' = ReadsFault left left' fault
