-- Which lines stand written where the input has a fault among the records.
use Rattle.std.proofs.Common.{◌≡◌, ◌≢◌, ◌⊎◌, inl, inr, Result, Ok, Err, ℕ, ◌+◌, ◌-◌, ◌*◌, ◌/◌, ◌<◌, ◌≤◌, min, max, Bool, true, false, Option, Some, None, List, [], ◌∷◌, ◌++◌, length, nat_lt, refl, sym, ap, subst, ◌∙◌, arith, append-nil, length-append}
use Rattle.std.specs.Prelude.{IfSome, IfErr, OnErr}
use Rattle.std.specs.Io.KnownBytes.{Consumes}
use Rattle.std.proofs.Math.Nat.{mul-le-mul_right, div-mul-le_self}
use Rattle.std.proofs.lemmas.Bool.{ltb-true}
use Rattle.std.proofs.lemmas.Nat.{div_below}
use Rattle.flp_io.specs.Reads.{ConsumesAtMost, ConsumesLess}
use Rattle.flp_io.specs.Writes.{TakesPrefix}
use Rattle.flp_report.specs.declared.fault.BatchFault.{BatchFault}
use Rattle.flp_report.specs.declared.fault.BatchFault.TheVariants.{Truncated}
use Rattle.flp_report.specs.declared.fault.ReadFault.{ReadFault}
use Rattle.flp_report.specs.declared.fault.ReadFault.TheVariants as read
use Rattle.flp_report.specs.declared.shape.Shape.{Shape}
use Rattle.flp_report.specs.Shape.{bytes_of, segment_of}
use Rattle.flp_report.specs.Fault.{IfBatch, met, first_of}
use Rattle.flp_report.specs.Pieces.{pieces, IsCut}
use Rattle.flp_report.specs.Buckets.{bucket_fault, segment_fault, IsSegmentFault}
use Rattle.flp_report.proofs.BucketLemmas.{placed-one, bucket_fault-behind}
use Rattle.flp_report.proofs.KnownLemmas.{IfSome-map}
use Rattle.flp_report.proofs.ShapeLemmas.{bytes_least}
use Rattle.flp_batch.specs.declared.fault.EngineFault.{EngineFault}
use Rattle.flp_batch.specs.declared.fault.EngineFault.TheVariants.{Memory, Read, Write, Batch, Circuit}
use Rattle.flp_batch.specs.Cut.{settled}
use Rattle.flp_batch.specs.Fault.{fault_from, IfFile, IsOfFront, IsOfInput}
use Rattle.flp_batch.specs.Lines.{lines_from}
use Rattle.flp_batch.specs.Walk.{JudgesSome, Judges, Breaks}
use Rattle.flp_batch.proofs.WalkLemmas.{Stops-none, Stops-within}

-- ---- numbers

-- a segment has a record
least-of : (fitting : ℕ) → 1 ≤ min 1024 (max 1 fitting)
least-of fitting = omega arith

segment_least : (s : Shape) → 1 ≤ segment_of s
segment_least s = least-of (67108864 / bytes_of s)

-- fewer records than stand in one segment more settle none of it
settled-below : (size i whole : ℕ) → 1 ≤ size → whole < (i + 1) * size → whole / size * size ≤ i * size
settled-below size i whole some less =
    let below = div_below whole size (i + 1) some less in
    let most : whole / size ≤ i = omega (arith, below) in
    mul-le-mul_right size most

-- no more are settled than came
pub settled-most : (s : Shape) (whole : ℕ) → settled s whole ≤ whole
settled-most s whole = div-mul-le_self whole (segment_of s)

-- whole segments of `size` records, and fewer than one more
few-behind : (size n i count more : ℕ) → count ≤ size → more < count → min n (i * size + more) < (i + 1) * size
few-behind size n i count more few less =
    let one : (i + 1) * size ≡ i * size + size = omega arith in
    omega (arith, few, less, one)

-- behind whole segments and fewer bytes than one more has
pub settled-cut : (s : Shape) (n i count more : ℕ) → count ≤ segment_of s → more < count * bytes_of s
    → settled s (min n (i * segment_of s + more / bytes_of s)) ≤ i * segment_of s
settled-cut s n i count more few less =
    let some : 0 < bytes_of s = omega (arith, bytes_least s) in
    let below = div_below more (bytes_of s) count some less in
    settled-below (segment_of s) i (min n (i * segment_of s + more / bytes_of s)) (segment_least s) (few-behind (segment_of s) n i count (more / bytes_of s) few below)

-- how many records the next segment has
pub record NextFits (size n i count : ℕ) : Type 0 where
  pub some : 0 < count
  pub fits : i + count ≤ n
  pub few : count ≤ size

next-fits : (size n i count : ℕ) → 1 ≤ size → i < n → count ≡ min size (n - i) → NextFits size n i count
next-fits size n i count least below is = record { some = omega (arith, least, below, is); fits = omega (arith, below, is); few = omega (arith, is) }

pub segment-fits : (s : Shape) (n i count : ℕ) → i < n → count ≡ min (segment_of s) (n - i) → NextFits (segment_of s) n i count
segment-fits s n i count below is = next-fits (segment_of s) n i count (segment_least s) below is

-- whole segments were read, as long as records are left
pub segments-next : (size n k count : ℕ) → count ≡ min size (n - k) → k < n → (k < n → (i : ℕ) × (k ≡ i * size)) → k + count < n → (i : ℕ) × (k + count ≡ i * size)
segments-next size n k count is below before more =
    let at = before below in
    let whole : count ≡ size = omega (arith, is, more) in
    let one : (at.0 + 1) * size ≡ at.0 * size + size = omega arith in
    (at.0 + 1, omega (arith, at.1, whole, one))

-- ---- bytes

-- where the last of two tests alone can be met, it is
last-met : (test : Bool) (fault b : BatchFault) → first_of (None ∷ met test fault ∷ []) ≡ Some b → test ≡ true
last-met true fault b is = refl
last-met false fault b is = let no : ⊥ = cc in absurd no

-- in version 1 the fault of a segment is that bytes are missing
segment-missing : (s : Shape) (place before count whole : ℕ) (rest : List ℕ) (b : BatchFault) → s.version ≢ 2 → 1 ≤ s.buckets
    → segment_fault s place before count whole rest ≡ Some b → length rest < count * bytes_of s
segment-missing s place before count whole rest b one some is =
    let came = pieces (bytes_of s) (min count (length rest / bytes_of s)) rest in
    let right : bucket_fault s place came ≡ None =
    ap (bucket_fault s place) (sym (append-nil came)) ∙ bucket_fault-behind s place came [] (placed-one s came one some) in
    let short = met (nat_lt (length rest) (count * bytes_of s)) (Truncated (before + length rest) whole) in
    let last : first_of (None ∷ short ∷ []) ≡ Some b = ap (λ (f : Option BatchFault). first_of (f ∷ short ∷ [])) (sym right) ∙ is in
    ltb-true (length rest) (count * bytes_of s) (last-met (nat_lt (length rest) (count * bytes_of s)) (Truncated (before + length rest) whole) b last)

-- where fewer bytes are left than are wanted, fewer are read
few-missing : (limit : ℕ) (left left' : Option (List ℕ)) → 0 < limit → ConsumesAtMost limit left left' → IfSome left (λ rest. length rest < limit) → ConsumesLess limit left left'
few-missing limit None left' some few short = record { bytes = []; less = some; gone = tt }
few-missing limit (Some rest) None some few short = absurd few.gone
few-missing limit (Some rest) (Some behind) some few short =
    let long : length rest ≡ length few.bytes + length behind = ap length few.gone ∙ length-append few.bytes behind in
    record { bytes = few.bytes; less = omega (arith, long, short); gone = few.gone }

-- ---- faults

-- what is no fault of the input is none that lies in front of the records
pub front-input : (fault : EngineFault) → (IsOfInput fault → ⊥) → IsOfFront fault → ⊥
front-input Memory other front = front
front-input Read other front = front
front-input Write other front = front
front-input (Batch fault) other front = other tt
front-input (Circuit fault) other front = other tt

-- nothing is said of it by the file
pub file-input : (P : EngineFault → Type 0) (fault : EngineFault) → (IsOfInput fault → ⊥) → IfFile fault P
file-input P Memory other = tt
file-input P Read other = tt
file-input P Write other = tt
file-input P (Batch fault) other = absurd (other tt)
file-input P (Circuit fault) other = absurd (other tt)

-- what a reader answers that could not read a segment
abbrev pub ReadFails : (shape : Shape) (count place before whole : ℕ) → ReadFault → (left left' : Option (List ℕ)) → Type 0
ReadFails shape count place before whole f left left' =
    ConsumesAtMost (count * bytes_of shape) left left'
    × (f ≡ read.Failed → ConsumesLess (count * bytes_of shape) left left')
    × IfBatch f (λ b. IfSome left (λ rest. segment_fault shape place before count whole rest ≡ Some b))
    × IfBatch f (IsSegmentFault shape place before count whole)

-- fewer bytes came than the segment has
pub few-read : (s : Shape) (count place before whole : ℕ) (f : ReadFault) (left left' : Option (List ℕ))
    → s.version ≢ 2 → 1 ≤ s.buckets → 0 < count → ReadFails s count place before whole f left left' → IsOfInput (fault_from f) → ConsumesLess (count * bytes_of s) left left'
few-read s count place before whole read.Memory left left' one some more fails input = absurd input
few-read s count place before whole read.Failed left left' one some more fails input = fails.1 refl
few-read s count place before whole (read.Batch b) left left' one some more fails input =
    let size = bytes_of s in
    let least = bytes_least s in
    let least_one : 1 * size ≤ count * size = mul-le-mul_right size more in
    let short = IfSome-map (λ rest. segment_fault s place before count whole rest ≡ Some b) (λ rest. length rest < count * size) left (λ rest found. segment-missing s place before count whole rest b one some found) fails.2 in
    few-missing (count * size) left left' (omega (arith, least, least_one)) fails.0 short

-- ---- lines

-- an end among the lines of a segment, which is no fault of the input
pub write-breaks : (s : Shape) (n k count : ℕ) (line : List (List ℕ) → List ℕ → List ℕ) (follows : List (List ℕ) → Type 0) (left left' left'' taken taken' taken'' : Option (List ℕ)) (bytes : List ℕ) (more : List (List ℕ)) (fault : EngineFault)
    → Judges (bytes_of s) k line follows left left' taken taken' → k + count ≤ n → IsCut (bytes_of s) count bytes more → Consumes left' left'' bytes → (IsOfInput fault → ⊥)
    → ((earlier : List (List ℕ)) → follows earlier → TakesPrefix taken' taken'' (lines_from line earlier more)) → Breaks fault s n line left left'' taken taken''
write-breaks s n k count line follows left left' left'' taken taken' taken'' bytes more fault all fits cut gone other front = record {
  behind = front-input fault other;
  stops = Stops-within (bytes_of s) k count n line follows left left' left'' taken taken' taken'' bytes more all fits cut gone front;
  settles = λ input. absurd (other input);
}

-- want of memory before anything was done
pub memory-breaks : {T : Type 0} (result : Result T EngineFault) (s : Shape) (n : ℕ) (line : List (List ℕ) → List ℕ → List ℕ) (left taken : Option (List ℕ))
    → result ≡ Err Memory → IfErr result (λ fault. Breaks fault s n line left left taken taken)
memory-breaks {T = T} result s n line left taken is =
    let none : Breaks Memory s n line left left taken taken = record { behind = λ front. front; stops = Stops-none (bytes_of s) n line left taken; settles = λ input. absurd input } in
    let here : IfErr {T = T} (Err Memory) (λ fault. Breaks fault s n line left left taken taken) = none in
    subst (λ (r : Result T EngineFault). IfErr r (λ fault. Breaks fault s n line left left taken taken)) (sym is) here

-- what follows the lines is written behind the input's end: no fault of it is left
pub ending-settles : {T : Type 0} (r : Result T EngineFault) (F : Type 0) (P : EngineFault → Type 0) → OnErr r ((r ≡ Err Memory) ⊎ ((r ≡ Err Write) × F)) → IfErr r (λ fault. IsOfInput fault → P fault)
ending-settles (Ok x) F P cause = tt
ending-settles (Err e) F P (inl memory) = λ input. let same : e ≡ Memory = cc in absurd (subst IsOfInput same input)
ending-settles (Err e) F P (inr write) = λ input.
    let first = write.0 in
    let same : e ≡ Write = cc in
    absurd (subst IsOfInput same input)

-- ---- with nothing held back, and an equal line

pub judged-same : (line line' : List (List ℕ) → List ℕ → List ℕ) (follows follows' : List (List ℕ) → Type 0) (rs : List (List ℕ)) (held : List ℕ) (taken taken' : Option (List ℕ))
    → line' ≡ line → held ≡ [] → ((e : List (List ℕ)) → follows e → JudgesSome line' follows' e rs taken held taken' []) → (e : List (List ℕ)) → follows e → JudgesSome line follows' e rs taken [] taken' []
judged-same line line' follows follows' rs held taken taken' same none judged = λ e f.
    subst (λ (l : List (List ℕ) → List ℕ → List ℕ). JudgesSome l follows' e rs taken [] taken' []) same
    (subst (λ (h : List ℕ). JudgesSome line' follows' e rs taken h taken' []) none (judged e f))

pub front-same : (line line' : List (List ℕ) → List ℕ → List ℕ) (follows : List (List ℕ) → Type 0) (rs : List (List ℕ)) (held : List ℕ) (taken taken' : Option (List ℕ))
    → line' ≡ line → held ≡ [] → ((e : List (List ℕ)) → follows e → TakesPrefix taken taken' (held ++ lines_from line' e rs)) → (e : List (List ℕ)) → follows e → TakesPrefix taken taken' (lines_from line e rs)
front-same line line' follows rs held taken taken' same none front = λ e f.
    subst (λ (l : List (List ℕ) → List ℕ → List ℕ). TakesPrefix taken taken' (lines_from l e rs)) same
    (subst (λ (h : List ℕ). TakesPrefix taken taken' (h ++ lines_from line' e rs)) none (front e f))
