-- Faults that are tried in one order, from the parts up.
use Rattle.std.specs.Prelude.{ℕ, ◌+◌, Bool, List, [], ◌∷◌, Option, Some, None, ⊤, nat_lt, if◌then◌else◌, length}
use Rattle.flp_report.specs.declared.fault.ReadFault.{ReadFault}
use Rattle.flp_report.specs.declared.fault.ReadFault.TheVariants as read
use Rattle.flp_report.specs.declared.fault.BatchFault.{BatchFault}
use Rattle.flp_report.specs.declared.fault.BatchFault.TheVariants.{Truncated}

-- a fault, where its test is met
abbrev pub met : Bool → BatchFault → Option BatchFault
met test fault = if test then Some fault else None

-- the first fault of tests that are tried in their order
abbrev pub first_of : List (Option BatchFault) → Option BatchFault
first_of [] = None
first_of (None ∷ rest) = first_of rest
first_of ((Some fault) ∷ rest) = Some fault

-- the input ended in front of the place `need`; `rest` is what follows its first `before` bytes
abbrev pub ended : ℕ → ℕ → List ℕ → Option BatchFault
ended before need rest = met (nat_lt (before + length rest) need) (Truncated (before + length rest) need)

-- what is said of a fault of the file; of a failed read and want of memory nothing is said
abbrev pub IfBatch : ReadFault → (BatchFault → Type 0) → Type 0
IfBatch read.Memory P = ⊤
IfBatch read.Failed P = ⊤
IfBatch (read.Batch fault) P = P fault
