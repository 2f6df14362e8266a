-- The first fault and the whole records of a file, from what stands in front.
use Rattle.std.proofs.Common.{◌≡◌, ℕ, suc, ◌+◌, ◌-◌, ◌*◌, ◌/◌, ◌<◌, ◌≤◌, min, List, [], ◌∷◌, ◌++◌, length, take, drop, zero, Bool, true, false, Option, Some, None, nat_lt, refl, sym, ap, ◌∙◌, arith, append_assoc, append-nil, length-append}
use Rattle.std.proofs.Math.Nat.{mul-add-div_right, div-eq_of_lt, min-eq_right, mul-le-mul_right}
use Rattle.std.proofs.lemmas.Nat.{div_below}
use Rattle.std.proofs.lemmas.Bool.{lt-ltb, le-ltb, ltb-true}
use Rattle.std.proofs.lemmas.List.{take_at, drop_at}
use Rattle.std.proofs.lemmas.List.Elements.{All-head, All-tail}
use Rattle.std.specs.List.{concat, All}
use Rattle.flp_report.specs.declared.fault.BatchFault.{BatchFault}
use Rattle.flp_report.specs.declared.fault.BatchFault.TheVariants.{Truncated, Trailing}
use Rattle.flp_report.specs.declared.header.Header.{Header}
use Rattle.flp_report.specs.declared.shape.Shape.{Shape}
use Rattle.flp_report.specs.Shape.{bytes_of}
use Rattle.flp_report.specs.Fault.{met, first_of}
use Rattle.flp_report.specs.Head.{number_at}
use Rattle.flp_report.specs.Pieces.{pieces}
use Rattle.flp_report.specs.Buckets.{HasBucket, bucket_fault, placed, segment_fault}
use Rattle.flp_report.specs.Batch.{batch_text_end, batch_head_fault, large_fault, claims_fault, claims_end, whole_of, records_fault, front_fault, fault_of, whole_records, IsHead, IsFront}
use Rattle.flp_report.proofs.FaultLemmas.{first_of-here, first_of-next, first_of-last}
use Rattle.flp_report.proofs.HeadLemmas.{ended-none}
use Rattle.flp_report.proofs.ShapeLemmas.{bytes_least}
use Rattle.flp_report.proofs.BatchHeadLemmas.{says, head_fault-more}
use Rattle.flp_report.proofs.ClaimsLemmas.{claims_fault-none}
use Rattle.flp_report.proofs.BucketLemmas.{bucket_fault-behind, bucket_fault-fewer, placed-behind}

-- ---- in front of the records

-- the sizes of a file that begins with a head are what the head says
large_fault-more : (newest : ℕ) (party : Option ℕ) (shape : Shape) (front rest : List ℕ) (header : Header) → IsHead newest party front header
    → large_fault shape (number_at 24 (front ++ rest)) ≡ large_fault shape header.claims
large_fault-more newest party shape front rest header head = ap (large_fault shape) (says newest party front rest header head).claims

-- and so are its old claims
claims_fault-more : (newest : ℕ) (party : Option ℕ) (front rest : List ℕ) (header : Header) → IsHead newest party front header
    → claims_fault (batch_text_end (front ++ rest)) (number_at 24 (front ++ rest)) (drop (batch_text_end (front ++ rest)) (front ++ rest)) ≡ claims_fault (length front) header.claims rest
claims_fault-more newest party front rest header head =
    let s = says newest party front rest header head in
    let behind : drop (length front) (front ++ rest) ≡ rest = drop_at front rest (length front) refl in
    rw (s.text, s.claims, behind) refl

-- a file whose head has a fault
pub fault_of-head : (newest : ℕ) (party : Option ℕ) (shape : Shape) (bytes : List ℕ) (b : BatchFault) → batch_head_fault newest party bytes ≡ Some b → fault_of newest party shape bytes ≡ Some b
fault_of-head newest party shape bytes b is = first_of-here (front_fault newest party shape bytes) _ b (first_of-here (batch_head_fault newest party bytes) _ b is)

-- a file that is too large
pub fault_of-shape : (newest : ℕ) (party : Option ℕ) (shape : Shape) (front rest : List ℕ) (header : Header) (b : BatchFault) → IsHead newest party front header
    → large_fault shape header.claims ≡ Some b → fault_of newest party shape (front ++ rest) ≡ Some b
fault_of-shape newest party shape front rest header b head is =
    first_of-here (front_fault newest party shape (front ++ rest)) _ b
    (first_of-next (batch_head_fault newest party (front ++ rest)) _ (head_fault-more newest party front rest header head)
    ∙ first_of-here _ _ b (large_fault-more newest party shape front rest header head ∙ is))

-- a file with a fault among its old claims
pub fault_of-claims : (newest : ℕ) (party : Option ℕ) (shape : Shape) (front rest : List ℕ) (header : Header) (b : BatchFault) → IsHead newest party front header
    → large_fault shape header.claims ≡ None → claims_fault (length front) header.claims rest ≡ Some b → fault_of newest party shape (front ++ rest) ≡ Some b
fault_of-claims newest party shape front rest header b head fits is =
    first_of-here (front_fault newest party shape (front ++ rest)) _ b
    (first_of-next (batch_head_fault newest party (front ++ rest)) _ (head_fault-more newest party front rest header head)
    ∙ (first_of-next _ _ (large_fault-more newest party shape front rest header head ∙ fits)
    ∙ first_of-here _ _ b (claims_fault-more newest party front rest header head ∙ is)))

-- what stands in front of the records of a file has no fault
pub front_fault-none : (newest : ℕ) (party : Option ℕ) (shape : Shape) (front rest : List ℕ) (header : Header) → IsFront newest party shape front header → front_fault newest party shape (front ++ rest) ≡ None
front_fault-none newest party shape front rest header f =
    let bytes = f.head ++ (f.claims ++ rest) in
    let same : front ++ rest ≡ bytes = ap (λ (b : List ℕ). b ++ rest) f.is ∙ append_assoc f.head f.claims rest in
    ap (front_fault newest party shape) same
    ∙ (first_of-next (batch_head_fault newest party bytes) _ (head_fault-more newest party f.head (f.claims ++ rest) header f.says)
    ∙ (first_of-next _ _ (large_fault-more newest party shape f.head (f.claims ++ rest) header f.says ∙ f.fits)
    ∙ first_of-next _ _ (claims_fault-more newest party f.head (f.claims ++ rest) header f.says ∙ claims_fault-none (length f.head) header.claims f.claims rest f.size f.rising)))

-- where the old claims of a file end
claims_end-more : (newest : ℕ) (party : Option ℕ) (shape : Shape) (front rest : List ℕ) (header : Header) → IsFront newest party shape front header
    → (claims_end (front ++ rest) ≡ length front) × (number_at 28 (front ++ rest) ≡ header.reports)
claims_end-more newest party shape front rest header f =
    let bytes = f.head ++ (f.claims ++ rest) in
    let same : front ++ rest ≡ bytes = ap (λ (b : List ℕ). b ++ rest) f.is ∙ append_assoc f.head f.claims rest in
    let s = says newest party f.head (f.claims ++ rest) header f.says in
    let long : length front ≡ length f.head + 16 * header.claims = ap length f.is ∙ (length-append f.head f.claims ∙ ap (λ (n : ℕ). length f.head + n) f.size) in (
      ap claims_end same ∙ (ap (λ (n : ℕ). n + 16 * number_at 24 bytes) s.text ∙ (ap (λ (n : ℕ). length f.head + 16 * n) s.claims ∙ sym long)),
      ap (number_at 28) same ∙ s.reports,
    )

-- the first fault of a file without one in front of its records
pub fault_of-records : (newest : ℕ) (party : Option ℕ) (shape : Shape) (front rest : List ℕ) (header : Header) → IsFront newest party shape front header
    → fault_of newest party shape (front ++ rest) ≡ records_fault shape (length front) header.reports rest
fault_of-records newest party shape front rest header f =
    let e = claims_end-more newest party shape front rest header f in
    let behind : drop (length front) (front ++ rest) ≡ rest = drop_at front rest (length front) refl in
    first_of-next _ _ (front_fault-none newest party shape front rest header f)
    ∙ (first_of-last _ ∙ rw (e.0, e.1, behind) refl)

-- ---- records that were read

-- records one after the other
pub length-records : (size : ℕ) (rs : List (List ℕ)) → All (λ r. length r ≡ size) rs → length (concat rs) ≡ length rs * size
length-records size [] all = let none : 0 ≡ 0 * size = omega arith in none
length-records size (r ∷ rs) all =
    let rest = length-records size rs (All-tail (λ r. length r ≡ size) r rs all) in
    let first = All-head (λ r. length r ≡ size) r rs all in
    omega (arith, length-append r (concat rs), first, rest)

-- the records of a list of records, and of what follows it
pieces-concat : (size : ℕ) (rs : List (List ℕ)) (k : ℕ) (tail : List ℕ) → All (λ r. length r ≡ size) rs → pieces size (length rs + k) (concat rs ++ tail) ≡ rs ++ pieces size k tail
pieces-concat size [] k tail all = let e : 0 + k ≡ k = omega arith in ap (λ (n : ℕ). pieces size n tail) e
pieces-concat size (r ∷ rs) k tail all =
    let first = All-head (λ r. length r ≡ size) r rs all in
    let behind : (r ++ concat rs) ++ tail ≡ r ++ (concat rs ++ tail) = append_assoc r (concat rs) tail in
    let number : length (r ∷ rs) + k ≡ suc (length rs + k) = omega arith in
    let taken : take size (r ++ (concat rs ++ tail)) ≡ r = take_at r (concat rs ++ tail) size first in
    let dropped : drop size (r ++ (concat rs ++ tail)) ≡ concat rs ++ tail = drop_at r (concat rs ++ tail) size first in
    ap (λ (n : ℕ). pieces size n ((r ++ concat rs) ++ tail)) number
    ∙ (ap (λ (b : List ℕ). take size b ∷ pieces size (length rs + k) (drop size b)) behind
    ∙ (ap (λ (b : List ℕ). b ∷ pieces size (length rs + k) (drop size (r ++ (concat rs ++ tail)))) taken
    ∙ (ap (λ (b : List ℕ). r ∷ pieces size (length rs + k) b) dropped
    ∙ ap (λ (l : List (List ℕ)). r ∷ l) (pieces-concat size rs k tail (All-tail (λ r. length r ≡ size) r rs all)))))

-- how many records are whole, by those in front and the bytes behind these
whole_count : (reports count size more : ℕ) → 0 < size → count ≤ reports → min reports ((count * size + more) / size) ≡ count + min (reports - count) (more / size)
whole_count reports count size more some few =
    let whole : (count * size + more) / size ≡ count + more / size = mul-add-div_right some count more in
    rw whole (omega arith)

-- records that were read are the first whole ones, and the others stand behind them
pub whole_of-first : (shape : Shape) (reports : ℕ) (records : List (List ℕ)) (rest : List ℕ) → All (λ r. length r ≡ bytes_of shape) records → length records ≤ reports
    → whole_of shape reports (concat records ++ rest) ≡ records ++ whole_of shape (reports - length records) rest
whole_of-first shape reports records rest all few =
    let size = bytes_of shape in
    let more = min (reports - length records) (length rest / size) in
    let bytes : length (concat records ++ rest) ≡ length records * size + length rest = length-append (concat records) rest ∙ ap (λ (n : ℕ). n + length rest) (length-records size records all) in
    let some : 0 < size = omega (arith, bytes_least shape) in
    let count : min reports (length (concat records ++ rest) / size) ≡ length records + more = ap (λ (n : ℕ). min reports (n / size)) bytes ∙ whole_count reports (length records) size (length rest) some few in
    ap (λ (k : ℕ). pieces size k (concat records ++ rest)) count ∙ pieces-concat size records more rest all

-- the search for a bad bucket goes on behind them
pub bucket_fault-first : (shape : Shape) (reports : ℕ) (records : List (List ℕ)) (rest : List ℕ) → All (λ r. length r ≡ bytes_of shape) records → All (HasBucket shape) records → length records ≤ reports
    → bucket_fault shape 0 (whole_of shape reports (concat records ++ rest)) ≡ bucket_fault shape (length records) (whole_of shape (reports - length records) rest)
bucket_fault-first shape reports records rest all placed few =
    let start : 0 + length records ≡ length records = omega arith in
    ap (bucket_fault shape 0) (whole_of-first shape reports records rest all few)
    ∙ (bucket_fault-behind shape 0 records (whole_of shape (reports - length records) rest) placed
    ∙ ap (λ (n : ℕ). bucket_fault shape n (whole_of shape (reports - length records) rest)) start)

-- where no record is whole there is none
none_whole : (shape : Shape) (reports place : ℕ) (rest : List ℕ) → min reports (length rest / bytes_of shape) ≡ 0 → bucket_fault shape place (whole_of shape reports rest) ≡ None
none_whole shape reports place rest none = ap (λ (k : ℕ). bucket_fault shape place (pieces (bytes_of shape) k rest)) none

-- the last of two tests, where the first is not met
first_of-two-last : (test : Bool) (fault b : BatchFault) → first_of (None ∷ met test fault ∷ []) ≡ Some b → (test ≡ true) × (fault ≡ b)
first_of-two-last true fault b is = let same : fault ≡ b = cc in (refl, same)
first_of-two-last false fault b is = let no : ⊥ = cc in absurd no

-- whether a file goes on behind its end, by what is left there
trailing-test : (whole far rest : ℕ) → far ≡ whole + rest → nat_lt whole far ≡ nat_lt 0 rest
trailing-test whole far zero same = le-ltb whole far (omega (arith, same))
trailing-test whole far (suc rest) same = lt-ltb whole far (omega (arith, same)) ∙ sym (lt-ltb 0 (suc rest) (omega arith))

-- a fault of the next records is one of them all
segment-first : (shape : Shape) (before reports count : ℕ) (records : List (List ℕ)) (rest : List ℕ) (b : BatchFault) (bucket : Option BatchFault)
    → All (λ r. length r ≡ bytes_of shape) records → All (HasBucket shape) records → length records + count ≤ reports
    → bucket ≡ bucket_fault shape (length records) (whole_of shape count rest)
    → first_of (bucket ∷ met (nat_lt (length rest) (count * bytes_of shape)) (Truncated (before + length (concat records) + length rest) (before + reports * bytes_of shape)) ∷ []) ≡ Some b
    → records_fault shape before reports (concat records ++ rest) ≡ Some b
segment-first shape before reports count records rest b (Some fault) all placed few same is =
    let size = bytes_of shape in
    let less : length records ≤ reports = omega (arith, few) in
    let here : fault ≡ b = cc in
    let fewer : min count (length rest / size) ≤ min (reports - length records) (length rest / size) = omega (arith, few) in
    let found = bucket_fault-fewer shape (length records) (min count (length rest / size)) (min (reports - length records) (length rest / size)) rest fault fewer (sym same) in
    first_of-here _ _ b (bucket_fault-first shape reports records rest all placed less ∙ (found ∙ ap (λ (f : BatchFault). Some f) here))
segment-first shape before reports count records rest b None all placed few same is =
    let size = bytes_of shape in
    let some : 0 < size = omega (arith, bytes_least shape) in
    let less : length records ≤ reports = omega (arith, few) in
    let cut = first_of-two-last (nat_lt (length rest) (count * size)) (Truncated (before + length (concat records) + length rest) (before + reports * size)) b is in
    let short : length rest < count * size = ltb-true (length rest) (count * size) cut.0 in
    let below = div_below (length rest) size count some short in
    let own : min count (length rest / size) ≡ length rest / size = min-eq_right (omega (arith, below)) in
    let own_all : min (reports - length records) (length rest / size) ≡ length rest / size = min-eq_right (omega (arith, below, few)) in
    let right : bucket_fault shape (length records) (whole_of shape (reports - length records) rest) ≡ None =
    ap (λ (k : ℕ). bucket_fault shape (length records) (pieces size k rest)) (own_all ∙ sym own) ∙ sym same in
    let read = length-records size records all in
    let bytes = length-append (concat records) rest in
    let room : (length records + count) * size ≤ reports * size = mul-le-mul_right size few in
    let early : before + length (concat records ++ rest) < before + reports * size = omega (arith, bytes, read, short, room) in
    let place : before + length (concat records ++ rest) ≡ before + length (concat records) + length rest = omega (arith, bytes) in
    first_of-next _ _ (bucket_fault-first shape reports records rest all placed less ∙ right)
    ∙ first_of-here _ _ b
    (ap (λ (t : Bool). met t (Truncated (before + length (concat records ++ rest)) (before + reports * size))) (lt-ltb (before + length (concat records ++ rest)) (before + reports * size) early)
    ∙ (ap (λ (n : ℕ). Some (Truncated n (before + reports * size))) place ∙ ap (λ (f : BatchFault). Some f) cut.1))

-- a fault of the next records, behind others that were read, is the first of all
pub records_fault-segment : (shape : Shape) (before reports count : ℕ) (records : List (List ℕ)) (rest : List ℕ) (b : BatchFault)
    → All (λ r. length r ≡ bytes_of shape) records → All (HasBucket shape) records → length records + count ≤ reports
    → segment_fault shape (length records) (before + length (concat records)) count (before + reports * bytes_of shape) rest ≡ Some b
    → records_fault shape before reports (concat records ++ rest) ≡ Some b
records_fault-segment shape before reports count records rest b all placed few is =
    segment-first shape before reports count records rest b (bucket_fault shape (length records) (whole_of shape count rest)) all placed few refl is

-- behind all records there is none among them
all_whole : (shape : Shape) (before reports : ℕ) (records : List (List ℕ)) (rest : List ℕ) → All (λ r. length r ≡ bytes_of shape) records → All (HasBucket shape) records → length records ≡ reports
    → records_fault shape before reports (concat records ++ rest) ≡ first_of (met (nat_lt 0 (length rest)) Trailing ∷ [])
all_whole shape before reports records rest all placed same =
    let size = bytes_of shape in
    let few : length records ≤ reports = omega (arith, same) in
    let none : min (reports - length records) (length rest / size) ≡ 0 = omega (arith, same) in
    let read : length (concat records) ≡ reports * size = length-records size records all ∙ ap (λ (n : ℕ). n * size) same in
    let bytes = length-append (concat records) rest in
    let reaches : before + reports * size ≤ before + length (concat records ++ rest) = omega (arith, bytes, read) in
    let right = bucket_fault-first shape reports records rest all placed few ∙ none_whole shape (reports - length records) (length records) rest none in
    first_of-next _ _ right
    ∙ (first_of-next _ _ (ended-none before (before + reports * size) (concat records ++ rest) reaches)
    ∙ ap (λ (t : Bool). first_of (met t Trailing ∷ [])) (trailing-test (before + reports * size) (before + length (concat records ++ rest)) (length rest) (omega (arith, bytes, read))))

-- a file with a byte behind its records
pub records_fault-trailing : (shape : Shape) (before reports : ℕ) (records : List (List ℕ)) (rest : List ℕ) → All (λ r. length r ≡ bytes_of shape) records → All (HasBucket shape) records → length records ≡ reports
    → 0 < length rest → records_fault shape before reports (concat records ++ rest) ≡ Some Trailing
records_fault-trailing shape before reports records rest all placed same more =
    all_whole shape before reports records rest all placed same ∙ ap (λ (t : Bool). first_of (met t Trailing ∷ [])) (lt-ltb 0 (length rest) more)

-- a file that ends with them
pub records_fault-none : (shape : Shape) (before reports : ℕ) (records : List (List ℕ)) → All (λ r. length r ≡ bytes_of shape) records → All (HasBucket shape) records → length records ≡ reports
    → records_fault shape before reports (concat records) ≡ None
records_fault-none shape before reports records all placed same =
    ap (records_fault shape before reports) (sym (append-nil (concat records))) ∙ all_whole shape before reports records [] all placed same

-- ---- the whole records of a file

-- by what follows its old claims
whole_records-behind : (newest : ℕ) (party : Option ℕ) (shape : Shape) (front rest : List ℕ) (header : Header) → IsFront newest party shape front header
    → whole_records newest party shape (front ++ rest) ≡ placed shape (whole_of shape header.reports rest)
whole_records-behind newest party shape front rest header f =
    let e = claims_end-more newest party shape front rest header f in
    let behind : drop (length front) (front ++ rest) ≡ rest = drop_at front rest (length front) refl in
    rw (front_fault-none newest party shape front rest header f, e.0, e.1, behind) refl

-- records that were read are the first, and the others stand behind them
pub whole_records-first : (newest : ℕ) (party : Option ℕ) (shape : Shape) (front rest : List ℕ) (header : Header) (records : List (List ℕ))
    → IsFront newest party shape front header → All (λ r. length r ≡ bytes_of shape) records → All (HasBucket shape) records → length records ≤ header.reports
    → whole_records newest party shape (front ++ (concat records ++ rest)) ≡ records ++ placed shape (whole_of shape (header.reports - length records) rest)
whole_records-first newest party shape front rest header records f all right few =
    whole_records-behind newest party shape front (concat records ++ rest) header f
    ∙ (ap (placed shape) (whole_of-first shape header.reports records rest all few)
    ∙ placed-behind shape records (whole_of shape (header.reports - length records) rest) right)

-- where none is behind them they are all
whole_records-only : (newest : ℕ) (party : Option ℕ) (shape : Shape) (front rest : List ℕ) (header : Header) (records : List (List ℕ))
    → IsFront newest party shape front header → All (λ r. length r ≡ bytes_of shape) records → All (HasBucket shape) records → length records ≤ header.reports
    → min (header.reports - length records) (length rest / bytes_of shape) ≡ 0
    → whole_records newest party shape (front ++ (concat records ++ rest)) ≡ records
whole_records-only newest party shape front rest header records f all right few none =
    whole_records-first newest party shape front rest header records f all right few
    ∙ (ap (λ (k : ℕ). records ++ placed shape (pieces (bytes_of shape) k rest)) none ∙ append-nil records)

-- as many records as the head gives are all of them
pub whole_records-all : (newest : ℕ) (party : Option ℕ) (shape : Shape) (front rest : List ℕ) (header : Header) (records : List (List ℕ))
    → IsFront newest party shape front header → All (λ r. length r ≡ bytes_of shape) records → All (HasBucket shape) records → length records ≡ header.reports
    → whole_records newest party shape (front ++ (concat records ++ rest)) ≡ records
whole_records-all newest party shape front rest header records f all right same =
    whole_records-only newest party shape front rest header records f all right (omega (arith, same)) (omega (arith, same))

-- so are those behind which fewer bytes are left than one has
pub whole_records-short : (newest : ℕ) (party : Option ℕ) (shape : Shape) (front rest : List ℕ) (header : Header) (records : List (List ℕ))
    → IsFront newest party shape front header → All (λ r. length r ≡ bytes_of shape) records → All (HasBucket shape) records → length records ≤ header.reports → length rest < bytes_of shape
    → whole_records newest party shape (front ++ (concat records ++ rest)) ≡ records
whole_records-short newest party shape front rest header records f all right few short =
    let none : length rest / bytes_of shape ≡ 0 = div-eq_of_lt short in
    whole_records-only newest party shape front rest header records f all right few (omega (arith, none))
