-- Which status a fault has, and what is known of bytes that were read to their end.
use Rattle.std.proofs.Common.{◌≡◌, ℕ, ◌≤◌, ◌++◌, Option, Some, None, List, [], length, take, refl, sym, ap, subst, ◌∙◌, inl, inr, ◌⊎◌, append-nil, arith}
use Rattle.std.specs.Prelude.{IfSome}
use Rattle.std.specs.Io.KnownBytes.{Appends, Consumes, IsAtEnd, Keeps}
use Rattle.std.proofs.lemmas.Grind.{common_steps}
use Rattle.flp_report.specs.declared.fault.BatchFault.{BatchFault}
use Rattle.flp_report.specs.declared.fault.BatchFault.TheVariants as file
use Rattle.flp_lengths.specs.Reading.{judged_text}
use Rattle.flp_cli.specs.Answers.{file_status}

-- a file's fault has status 6 or 7
pub file-status : (f : BatchFault) → (file_status f ≡ 6) ⊎ (file_status f ≡ 7)
file-status file.Magic = inl refl
file-status (file.Version version) = inl refl
file-status (file.Shares shares) = inl refl
file-status (file.Proofs proofs) = inl refl
file-status (file.TextLength length) = inr refl
file-status (file.ClaimsOrder claim) = inl refl
file-status (file.TooLarge size) = inl refl
file-status (file.Truncated have need) = inl refl
file-status file.Trailing = inl refl
file-status (file.Word place word) = inl refl
file-status (file.Party shares) = inl refl
file-status (file.Buckets buckets) = inl refl
file-status (file.Width width) = inl refl
file-status (file.Bucket place bucket) = inl refl

-- where the whole input was read, the bytes that were read are all of it
pub whole-read : (left left' : Option (List ℕ)) (bytes read : List ℕ) → left ≡ Some bytes → Consumes left left' read → IsAtEnd left' → bytes ≡ read
whole-read None left' bytes read is gone ended = cc
whole-read (Some xs) None bytes read is gone ended = absurd gone
whole-read (Some xs) (Some ys) bytes read is gone ended =
    let same : xs ≡ bytes = cc in
    sym same ∙ (gone ∙ (ap (λ (l : List ℕ). read ++ l) ended ∙ append-nil read))

-- a fact of the bytes that a source tells
pub told : (left : Option (List ℕ)) (bytes : List ℕ) (P : List ℕ → Type 0) → left ≡ Some bytes → IfSome left P → P bytes
told None bytes P is fact = cc
told (Some xs) bytes P is fact = let same : xs ≡ bytes = cc in subst P same fact

-- bytes that stay grow by none
pub Appends-nothing : (a b : Option (List ℕ)) → Keeps a b → Appends a b []
Appends-nothing None b kept = tt
Appends-nothing (Some x) None kept = kept
Appends-nothing (Some x) (Some y) kept = kept ∙ sym (append-nil x)

-- a text that was read to its end has no byte behind the first 65,537
all-taken : (most : ℕ) (text : List ℕ) → length text ≤ most → text ≡ take most text
all-taken most text few = grind (arith, common_steps)

pub whole-text : (text : List ℕ) → length text ≤ 65537 → text ≡ judged_text text
whole-text text few = all-taken 65537 text few
