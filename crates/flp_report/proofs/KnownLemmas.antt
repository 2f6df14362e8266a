-- What is known of a source's bytes before a reading, from what was read and what is left.
use Rattle.std.proofs.Common.{◌≡◌, ℕ, ◌+◌, ◌≤◌, List, ◌++◌, length, Option, Some, None, sym, ap, subst, ◌∙◌, arith, length-append}
use Rattle.std.specs.Prelude.{IfSome}
use Rattle.std.specs.Io.KnownBytes.{Consumes}
use Rattle.flp_report.specs.declared.fault.ReadFault.{ReadFault}
use Rattle.flp_report.specs.declared.fault.ReadFault.TheVariants as read
use Rattle.flp_report.specs.declared.fault.BatchFault.{BatchFault}
use Rattle.flp_report.specs.declared.fault.BatchFault.TheVariants.{Truncated}
use Rattle.flp_report.specs.Fault.{IfBatch}
use Rattle.flp_report.specs.Reads.{EndedShort}

-- a fact of the bytes that were read, whatever follows, is one of all bytes that were left
pub IfSome-consumed : (P : List ℕ → Type 0) (old new : Option (List ℕ)) (bytes : List ℕ) → Consumes old new bytes → ((rest : List ℕ) → P (bytes ++ rest)) → IfSome old P
IfSome-consumed P None new bytes consumed all = tt
IfSome-consumed P (Some xs) None bytes consumed all = absurd consumed
IfSome-consumed P (Some xs) (Some ys) bytes consumed all = subst P (sym consumed) (all ys)

-- a fact of the bytes that are left gives one of all bytes that were left before a reading
pub IfSome-before : (P Q : List ℕ → Type 0) (old new : Option (List ℕ)) (bytes : List ℕ) → Consumes old new bytes → IfSome new Q → ((rest : List ℕ) → Q rest → P (bytes ++ rest)) → IfSome old P
IfSome-before P Q None new bytes consumed left all = tt
IfSome-before P Q (Some xs) None bytes consumed left all = absurd consumed
IfSome-before P Q (Some xs) (Some ys) bytes consumed left all = subst P (sym consumed) (all ys left)

-- a weaker fact of known bytes
pub IfSome-map : (P Q : List ℕ → Type 0) (known : Option (List ℕ)) → ((bytes : List ℕ) → P bytes → Q bytes) → IfSome known P → IfSome known Q
IfSome-map P Q None f is = tt
IfSome-map P Q (Some bytes) f is = f bytes is

-- a weaker fact of a fault of the file
pub IfBatch-map : (P Q : BatchFault → Type 0) (fault : ReadFault) → ((b : BatchFault) → P b → Q b) → IfBatch fault P → IfBatch fault Q
IfBatch-map P Q read.Memory f is = tt
IfBatch-map P Q read.Failed f is = tt
IfBatch-map P Q (read.Batch b) f is = f b is

-- a reading that ended short, seen from before bytes that were read
pub EndedShort-before : (old new : Option (List ℕ)) (front : List ℕ) (before done size wanted need : ℕ) (b : BatchFault) → Consumes old new front → length front ≡ done → done + size ≤ wanted
    → EndedShort new (before + done) size need b → EndedShort old before wanted need b
EndedShort-before old new front before done size wanted need b consumed count within short =
    let places : before + done + short.came ≡ before + (done + short.came) = omega arith in
    record {
      came = done + short.came;
      less = omega (arith, short.less, within);
      is = short.is ∙ ap (λ (n : ℕ). Truncated n need) places;
      known = IfSome-before (λ bytes. length bytes ≡ done + short.came) (λ bytes. length bytes ≡ short.came) old new front consumed short.known
          (λ rest same. let all = length-append front rest in omega (arith, all, same, count));
    }

-- what a reading that ended short says of the bytes that were left
pub EndedShort-known : (left : Option (List ℕ)) (before wanted need : ℕ) (b : BatchFault) (P : List ℕ → Type 0) → EndedShort left before wanted need b
    → ((rest : List ℕ) → EndedShort (Some rest) before wanted need b → P rest) → IfSome left P
EndedShort-known None before wanted need b P short f = tt
EndedShort-known (Some rest) before wanted need b P short f = f rest short
