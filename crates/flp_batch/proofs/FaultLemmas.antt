-- Which fault of a reader a fault of a walk came from.
use Rattle.std.proofs.Common.{ℕ, ◌≡◌, ◌≢◌, ◌∙◌, ◌⊎◌, inl, inr, Result, Err, refl, sym, ap, subst}
use Rattle.flp_report.specs.declared.fault.ReadFault.{ReadFault}
use Rattle.flp_report.specs.declared.fault.ReadFault.TheVariants as read
use Rattle.flp_report.specs.declared.fault.BatchFault.{BatchFault}
use Rattle.flp_report.specs.declared.fault.BatchFault.TheVariants.{Trailing}
use Rattle.flp_report.specs.declared.fault.BatchFault.TheVariants as batch
use Rattle.flp_report.specs.declared.shape.Shape.{Shape}
use Rattle.flp_report.specs.Fault.{IfBatch}
use Rattle.flp_report.specs.Buckets.{IsSegmentFault}
use Rattle.flp_load.specs.declared.fault.LoadFault.{LoadFault}
use Rattle.flp_load.specs.declared.fault.LoadFault.TheVariants as load
use Rattle.flp_load.specs.declared.fault.CircuitFault.{CircuitFault}
use Rattle.flp_batch.specs.declared.fault.EngineFault.TheVariants.{Read, Write, Batch, Circuit}
use Rattle.flp_batch.specs.Fault.{fault_from, fault_of_text, IsOfFront}

-- a fault of the batch
pub fault_from-batch : (f : ReadFault) (b : BatchFault) (P : BatchFault → Type 0) → fault_from f ≡ Batch b → IfBatch f P → P b
fault_from-batch read.Memory b P is p = let no : ⊥ = cc in absurd no
fault_from-batch read.Failed b P is p = let no : ⊥ = cc in absurd no
fault_from-batch (read.Batch a) b P is p = let same : a ≡ b = cc in subst P same p

-- a failed read
pub fault_from-read : (f : ReadFault) → fault_from f ≡ Read → f ≡ read.Failed
fault_from-read read.Memory is = let no : ⊥ = cc in absurd no
fault_from-read read.Failed is = refl
fault_from-read (read.Batch b) is = let no : ⊥ = cc in absurd no

-- no reader writes or knows circuits
pub fault_from-write : (f : ReadFault) → fault_from f ≢ Write
fault_from-write read.Memory is = cc
fault_from-write read.Failed is = cc
fault_from-write (read.Batch b) is = cc

-- nor does loading a text read
pub fault_of_text-read : (f : LoadFault) → fault_of_text f ≢ Read
fault_of_text-read load.Memory is = cc
fault_of_text-read (load.Circuit fault) is = cc

pub fault_from-circuit : (f : ReadFault) (c : CircuitFault) → fault_from f ≢ Circuit c
fault_from-circuit read.Memory c is = cc
fault_from-circuit read.Failed c is = cc
fault_from-circuit (read.Batch b) c is = cc

-- what the end of the input answered, where that is a fault of the batch
pub fault_from-end : {T : Type 0} (r : Result T ReadFault) (f : ReadFault) (b : BatchFault) (P : Type 0) → r ≡ Err f → fault_from f ≡ Batch b
    → (r ≡ Err read.Failed) ⊎ ((r ≡ Err (read.Batch Trailing)) × P) → (b ≡ Trailing) × P
fault_from-end r f b P at is (inl failed) =
    let same : f ≡ read.Failed = cc in
    let turned : Read ≡ Batch b = sym (ap fault_from same) ∙ is in
    let no : ⊥ = cc in absurd no
fault_from-end r f b P at is (inr trailing) =
    let first = trailing.0 in
    let same : f ≡ read.Batch Trailing = cc in
    let turned : Batch Trailing ≡ Batch b = sym (ap fault_from same) ∙ is in
    let last : b ≡ Trailing = cc in
    (last, trailing.1)

-- a fault of records is none that lies in front of them
pub segment-behind : (s : Shape) (place before count whole : ℕ) (f : ReadFault) → IfBatch f (IsSegmentFault s place before count whole) → IsOfFront (fault_from f) → ⊥
segment-behind s place before count whole read.Memory kind front = front
segment-behind s place before count whole read.Failed kind front = front
segment-behind s place before count whole (read.Batch batch.Magic) kind front = kind
segment-behind s place before count whole (read.Batch (batch.Version v)) kind front = kind
segment-behind s place before count whole (read.Batch (batch.Shares v)) kind front = kind
segment-behind s place before count whole (read.Batch (batch.Proofs v)) kind front = kind
segment-behind s place before count whole (read.Batch (batch.TextLength v)) kind front = kind
segment-behind s place before count whole (read.Batch (batch.ClaimsOrder v)) kind front = kind
segment-behind s place before count whole (read.Batch (batch.TooLarge v)) kind front = kind
segment-behind s place before count whole (read.Batch (batch.Truncated h n)) kind front = front
segment-behind s place before count whole (read.Batch batch.Trailing) kind front = front
segment-behind s place before count whole (read.Batch (batch.Word p w)) kind front = kind
segment-behind s place before count whole (read.Batch (batch.Party v)) kind front = kind
segment-behind s place before count whole (read.Batch (batch.Buckets v)) kind front = kind
segment-behind s place before count whole (read.Batch (batch.Width v)) kind front = kind
segment-behind s place before count whole (read.Batch (batch.Bucket p v)) kind front = front
