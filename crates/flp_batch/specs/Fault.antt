-- Faults of the calls below, as those of a walk.
use Rattle.std.specs.Prelude.{⊤}
use Rattle.flp_report.specs.declared.fault.BatchFault.{BatchFault}
use Rattle.flp_report.specs.declared.fault.BatchFault.TheVariants as batch
use Rattle.flp_report.specs.declared.fault.ReadFault.{ReadFault}
use Rattle.flp_report.specs.declared.fault.ReadFault.TheVariants as read
use Rattle.flp_load.specs.declared.fault.LoadFault.{LoadFault}
use Rattle.flp_load.specs.declared.fault.LoadFault.TheVariants as load
use Rattle.flp_batch.specs.declared.fault.EngineFault.{EngineFault}
use Rattle.flp_batch.specs.declared.fault.EngineFault.TheVariants.{Memory, Read, Write, Batch, Circuit}

-- a reader's fault
abbrev pub fault_from : ReadFault → EngineFault
fault_from read.Memory = Memory
fault_from read.Failed = Read
fault_from (read.Batch fault) = Batch fault

-- a fault of loading the text
abbrev pub fault_of_text : LoadFault → EngineFault
fault_of_text load.Memory = Memory
fault_of_text (load.Circuit fault) = Circuit fault

-- what is said of a fault of the file; of failed calls and want of memory nothing is said
abbrev pub IfFile : EngineFault → (EngineFault → Type 0) → Type 0
IfFile Memory P = ⊤
IfFile Read P = ⊤
IfFile Write P = ⊤
IfFile (Batch fault) P = P (Batch fault)
IfFile (Circuit fault) P = P (Circuit fault)

-- a fault that lies in front of the records, but for the end of the input: nothing is written where it is answered
abbrev pub IsOfHead : BatchFault → Type 0
IsOfHead batch.Magic = ⊤
IsOfHead (batch.Version number) = ⊤
IsOfHead (batch.Shares number) = ⊤
IsOfHead (batch.Proofs number) = ⊤
IsOfHead (batch.TextLength size) = ⊤
IsOfHead (batch.ClaimsOrder claim) = ⊤
IsOfHead (batch.TooLarge size) = ⊤
IsOfHead (batch.Truncated came need) = ⊥
IsOfHead batch.Trailing = ⊥
IsOfHead (batch.Word job word) = ⊤
IsOfHead (batch.Party shares) = ⊤
IsOfHead (batch.Buckets buckets) = ⊤
IsOfHead (batch.Width width) = ⊤
IsOfHead (batch.Bucket place bucket) = ⊥

abbrev pub IsOfFront : EngineFault → Type 0
IsOfFront Memory = ⊥
IsOfFront Read = ⊥
IsOfFront Write = ⊥
IsOfFront (Batch fault) = IsOfHead fault
IsOfFront (Circuit fault) = ⊤

-- a fault of the input: it failed, or it is no batch
abbrev pub IsOfInput : EngineFault → Type 0
IsOfInput Memory = ⊥
IsOfInput Read = ⊤
IsOfInput Write = ⊥
IsOfInput (Batch fault) = ⊤
IsOfInput (Circuit fault) = ⊤
