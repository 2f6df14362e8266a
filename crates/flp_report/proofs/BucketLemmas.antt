-- The search for a record whose bucket is not one of the shape's.
use Rattle.std.proofs.Common.{◌≡◌, ◌≢◌, ℕ, zero, suc, ◌+◌, ◌-◌, ◌*◌, ◌/◌, ◌<◌, ◌≤◌, min, List, [], ◌∷◌, ◌++◌, length, take, drop, Bool, true, false, nat_lt, Option, Some, None, refl, sym, ap, subst, ◌∙◌, arith, append_assoc, length-append, take-append-drop, ⊎_elim}
use Rattle.std.specs.Prelude.{if◌then◌else◌, IfSome}
use Rattle.std.specs.List.{All}
use Rattle.std.specs.Io.KnownBytes.{Consumes, IsAtEnd}
use Rattle.std.proofs.Math.Nat.{min-eq_left, min-eq_right}
use Rattle.std.proofs.lemmas.Bool.{ltb-true, ltb-false, lt-ltb, le-ltb, ne_eqb, cases_lt}
use Rattle.std.proofs.lemmas.List.Elements.{All-nil, All-cons, All-head, All-tail}
use Rattle.std.proofs.lemmas.List.{drop-drop, length-take-le}
use Rattle.std.proofs.lemmas.Nat.{le-div, div_below, div-add-mod'}
use Rattle.flp_report.specs.declared.fault.BatchFault.{BatchFault}
use Rattle.flp_report.specs.declared.fault.BatchFault.TheVariants.{Bucket, Truncated}
use Rattle.flp_report.specs.declared.shape.Shape.{Shape}
use Rattle.flp_report.specs.Shape.{bytes_of}
use Rattle.flp_report.specs.Fault.{met, first_of}
use Rattle.flp_report.specs.Pieces.{pieces}
use Rattle.flp_report.specs.Head.{number_at}
use Rattle.flp_report.specs.Record.{bucket_in}
use Rattle.flp_report.specs.Buckets.{HasBucket, bucket_fault, placed, segment_fault, IsSegmentFault}
use Rattle.flp_report.proofs.FaultLemmas.{first_of-here, first_of-next}
use Rattle.flp_report.proofs.ShapeLemmas.{bytes_least}
use Rattle.flp_report.proofs.KnownLemmas.{IfSome-before}
use Rattle.flp_report.proofs.PiecesLemmas.{piece, pieces-drop, pieces-append, length-pieces}

-- ---- one by one

-- the search from the record of this number on, where the first of all has the place `first`
abbrev pub bucket_from : Shape → ℕ → ℕ → ℕ → List ℕ → Option BatchFault
bucket_from s first k n bytes = bucket_fault s (first + k) (pieces (bytes_of s) (n - k) (drop (bytes_of s * k) bytes))

-- at a record whose bucket is one of the shape's it goes on
pub bucket_from-good : (s : Shape) (first k n : ℕ) (bytes : List ℕ) → k < n → bucket_in s (piece (bytes_of s) k bytes) < s.buckets → bucket_from s first k n bytes ≡ bucket_from s first (k + 1) n bytes
bucket_from-good s first k n bytes below good =
    let one : suc (first + k) ≡ first + (k + 1) = omega arith in
    let size = bytes_of s in
    let rest = pieces size (n - (k + 1)) (drop (size * (k + 1)) bytes) in
    let bucket = bucket_in s (piece size k bytes) in
    ap (bucket_fault s (first + k)) (pieces-drop size k n bytes below)
    ∙ (ap (λ (b : Bool). if b then bucket_fault s (suc (first + k)) rest else Some (Bucket (first + k) bucket)) (lt-ltb bucket s.buckets good)
    ∙ ap (λ (m : ℕ). bucket_fault s m rest) one)

-- at another it ends
pub bucket_from-bad : (s : Shape) (first k n : ℕ) (bytes : List ℕ) → k < n → s.buckets ≤ bucket_in s (piece (bytes_of s) k bytes)
    → bucket_from s first k n bytes ≡ Some (Bucket (first + k) (bucket_in s (piece (bytes_of s) k bytes)))
bucket_from-bad s first k n bytes below bad =
    let size = bytes_of s in
    let rest = pieces size (n - (k + 1)) (drop (size * (k + 1)) bytes) in
    let bucket = bucket_in s (piece size k bytes) in
    ap (bucket_fault s (first + k)) (pieces-drop size k n bytes below)
    ∙ ap (λ (b : Bool). if b then bucket_fault s (suc (first + k)) rest else Some (Bucket (first + k) bucket)) (le-ltb bucket s.buckets bad)

-- past the last record there is none
pub bucket_from-end : (s : Shape) (first n : ℕ) (bytes : List ℕ) → bucket_from s first n n bytes ≡ None
bucket_from-end s first n bytes =
    let none : n - n ≡ 0 = omega arith in
    ap (λ (m : ℕ). bucket_fault s (first + n) (pieces (bytes_of s) m (drop (bytes_of s * n) bytes))) none

-- from the first record on it is the search among all
pub bucket_from-start : (s : Shape) (first n : ℕ) (bytes : List ℕ) → bucket_from s first 0 n bytes ≡ bucket_fault s first (pieces (bytes_of s) n bytes)
bucket_from-start s first n bytes =
    let all : n - 0 ≡ n = omega arith in
    let start : bytes_of s * 0 ≡ 0 = omega arith in
    let place : first + 0 ≡ first = omega arith in
    ap (λ (p : ℕ). bucket_fault s p (pieces (bytes_of s) (n - 0) (drop (bytes_of s * 0) bytes))) place
    ∙ (ap (λ (m : ℕ). bucket_fault s first (pieces (bytes_of s) m (drop (bytes_of s * 0) bytes))) all
    ∙ ap (λ (m : ℕ). bucket_fault s first (pieces (bytes_of s) n (drop m bytes))) start)

-- ---- in lists of records

-- what one step of the search says
none-step : (test : Bool) (rest : Option BatchFault) (b : BatchFault) → (if test then rest else Some b) ≡ None → (test ≡ true) × (rest ≡ None)
none-step true rest b none = (refl, none)
none-step false rest b none = let no : ⊥ = cc in absurd no

-- where none is bad each bucket is one of the shape's
pub all-placed : (s : Shape) (place : ℕ) (records : List (List ℕ)) → bucket_fault s place records ≡ None → All (HasBucket s) records
all-placed s place [] none = All-nil (HasBucket s)
all-placed s place (given ∷ records) none =
    let step = none-step (nat_lt (bucket_in s given) s.buckets) _ _ none in
    All-cons (HasBucket s) given records (ltb-true (bucket_in s given) s.buckets step.0) (all-placed s (suc place) records step.1)

-- in version 1 it always is
pub placed-one : (s : Shape) (records : List (List ℕ)) → s.version ≢ 2 → 1 ≤ s.buckets → All (HasBucket s) records
placed-one s [] other some = All-nil (HasBucket s)
placed-one s (given ∷ records) other some =
    let none : bucket_in s given ≡ 0 = ap (λ (b : Bool). if b then number_at 16 given else 0) (ne_eqb s.version 2 other) in
    All-cons (HasBucket s) given records (omega (arith, none, some)) (placed-one s records other some)

-- behind records whose buckets are right the search goes on
pub bucket_fault-behind : (s : Shape) (place : ℕ) (records more : List (List ℕ)) → All (HasBucket s) records → bucket_fault s place (records ++ more) ≡ bucket_fault s (place + length records) more
bucket_fault-behind s place [] more all = let e : place ≡ place + 0 = omega arith in ap (λ (n : ℕ). bucket_fault s n more) e
bucket_fault-behind s place (given ∷ records) more all =
    let first = All-head (HasBucket s) given records all in
    let e : suc place + length records ≡ place + length (given ∷ records) = omega arith in
    ap (λ (b : Bool). if b then bucket_fault s (suc place) (records ++ more) else Some (Bucket place (bucket_in s given))) (lt-ltb (bucket_in s given) s.buckets first)
    ∙ (bucket_fault-behind s (suc place) records more (All-tail (HasBucket s) given records all)
    ∙ ap (λ (n : ℕ). bucket_fault s n more) e)

-- and all of them stand in front of the first bad one
pub placed-behind : (s : Shape) (records more : List (List ℕ)) → All (HasBucket s) records → placed s (records ++ more) ≡ records ++ placed s more
placed-behind s [] more all = refl
placed-behind s (given ∷ records) more all =
    let first = All-head (HasBucket s) given records all in
    ap (λ (b : Bool). if b then given ∷ placed s (records ++ more) else []) (lt-ltb (bucket_in s given) s.buckets first)
    ∙ ap (λ (l : List (List ℕ)). given ∷ l) (placed-behind s records more (All-tail (HasBucket s) given records all))

-- a bad one that is found stays the first, whatever records follow
found-step : (test : Bool) (rest other : Option BatchFault) (a b : BatchFault) → (rest ≡ Some b → other ≡ Some b) → (if test then rest else Some a) ≡ Some b → (if test then other else Some a) ≡ Some b
found-step true rest other a b more is = more is
found-step false rest other a b more is = is

pub bucket_fault-more : (s : Shape) (place : ℕ) (records more : List (List ℕ)) (b : BatchFault) → bucket_fault s place records ≡ Some b → bucket_fault s place (records ++ more) ≡ Some b
bucket_fault-more s place [] more b is = let no : ⊥ = cc in absurd no
bucket_fault-more s place (given ∷ records) more b is =
    found-step (nat_lt (bucket_in s given) s.buckets) _ _ _ b (bucket_fault-more s (suc place) records more b) is

-- the pieces of a number are those of a smaller number, and more
pub pieces-plus : (size n m : ℕ) (bytes : List ℕ) → pieces size (n + m) bytes ≡ pieces size n bytes ++ pieces size m (drop (n * size) bytes)
pieces-plus size zero m bytes =
    let none : 0 + m ≡ m = omega arith in
    let start : 0 ≡ 0 * size = omega arith in
    ap (λ (k : ℕ). pieces size k bytes) none ∙ ap (λ (k : ℕ). pieces size m (drop k bytes)) start
pieces-plus size (suc n) m bytes =
    let next : suc n + m ≡ suc (n + m) = omega arith in
    let place : size + n * size ≡ suc n * size = grind arith in
    ap (λ (k : ℕ). pieces size k bytes) next
    ∙ ap (λ (l : List (List ℕ)). take size bytes ∷ l)
    (pieces-plus size n m (drop size bytes)
    ∙ ap (λ (b : List ℕ). pieces size n (drop size bytes) ++ pieces size m b) (drop-drop (n * size) size bytes ∙ ap (λ (k : ℕ). drop k bytes) place))

-- a bad record among fewer pieces is the first among more
pub bucket_fault-fewer : (s : Shape) (place n m : ℕ) (bytes : List ℕ) (b : BatchFault) → n ≤ m → bucket_fault s place (pieces (bytes_of s) n bytes) ≡ Some b → bucket_fault s place (pieces (bytes_of s) m bytes) ≡ Some b
bucket_fault-fewer s place n m bytes b few is =
    let rest : m ≡ n + (m - n) = omega arith in
    let size = bytes_of s in
    ap (λ (k : ℕ). bucket_fault s place (pieces size k bytes)) (rest ∙ refl)
    ∙ (ap (bucket_fault s place) (pieces-plus size n (m - n) bytes)
    ∙ bucket_fault-more s place (pieces size n bytes) (pieces size (m - n) (drop (n * size) bytes)) b is)

-- ---- what came

-- how many records are whole among bytes that came, behind which nothing is left where fewer came than were wanted
pub whole_came : (size count came : ℕ) (front rest : List ℕ) → 0 < size → length front ≡ came → came ≤ count * size → (came < count * size → rest ≡ []) → min count (length (front ++ rest) / size) ≡ came / size
whole_came size count came front rest some long within ended =
    let all = length-append front rest in
    ⊎_elim
    (λ (less : came < count * size).
    let none : length rest ≡ 0 = ap length (ended less) in
    let same : length (front ++ rest) ≡ came = omega (arith, all, long, none) in
    let below = div_below came size count some less in
    let few : came / size ≤ count = omega (arith, below) in
    ap (λ (n : ℕ). min count (n / size)) same ∙ min-eq_right few)
    (λ (reaches : count * size ≤ came).
    let least = le-div count came size some reaches in
    let over : came < (count + 1) * size = omega (arith, within, some) in
    let most = div_below came size (count + 1) some over in
    let enough : count * size ≤ length (front ++ rest) = omega (arith, all, long, reaches) in
    let more = le-div count (length (front ++ rest)) size some enough in
    let same : came / size ≡ count = omega (arith, least, most) in
    min-eq_left more ∙ sym same)
    (cases_lt came (count * size))

-- the whole records of bytes are the first of more bytes
pieces-front : (size came : ℕ) (front rest : List ℕ) → length front ≡ came → pieces size (came / size) (front ++ rest) ≡ pieces size (came / size) front
pieces-front size came front rest long =
    let fits : came / size * size ≤ length front = omega (arith, div-add-mod' came size, long) in
    pieces-append size (came / size) front rest fits

-- what is left behind bytes that came
end-if : (W : Type 0) (left : Option (List ℕ)) → (W → IsAtEnd left) → IfSome left (λ rest. W → rest ≡ [])
end-if W None ended = tt
end-if W (Some rest) ended = ended

-- a record among them whose bucket is none of the shape's
pub segment-bad : (s : Shape) (first before count need came : ℕ) (old new : Option (List ℕ)) (front : List ℕ) (b : BatchFault) → Consumes old new front → length front ≡ came → came ≤ count * bytes_of s
    → (came < count * bytes_of s → IsAtEnd new) → bucket_fault s first (pieces (bytes_of s) (came / bytes_of s) front) ≡ Some b
    → IfSome old (λ rest. segment_fault s first before count need rest ≡ Some b)
segment-bad s first before count need came old new front b gone long within ended is =
    let size = bytes_of s in
    let some : 0 < size = omega (arith, bytes_least s) in
    IfSome-before (λ rest. segment_fault s first before count need rest ≡ Some b) (λ rest. came < count * size → rest ≡ []) old new front gone (end-if (came < count * size) new ended)
    (λ rest none.
    let whole : min count (length (front ++ rest) / size) ≡ came / size = whole_came size count came front rest some long within none in
    let found : bucket_fault s first (pieces size (min count (length (front ++ rest) / size)) (front ++ rest)) ≡ Some b =
    ap (λ (n : ℕ). bucket_fault s first (pieces size n (front ++ rest))) whole ∙ (ap (bucket_fault s first) (pieces-front size came front rest long) ∙ is) in
    first_of-here _ _ b found)

-- or else fewer that came than were wanted
pub segment-short : (s : Shape) (first before count need came : ℕ) (old new : Option (List ℕ)) (front : List ℕ) → Consumes old new front → length front ≡ came → came < count * bytes_of s
    → IsAtEnd new → bucket_fault s first (pieces (bytes_of s) (came / bytes_of s) front) ≡ None
    → IfSome old (λ rest. segment_fault s first before count need rest ≡ Some (Truncated (before + came) need))
segment-short s first before count need came old new front gone long less ended is =
    let size = bytes_of s in
    let some : 0 < size = omega (arith, bytes_least s) in
    let within : came ≤ count * size = omega (arith, less) in
    IfSome-before (λ rest. segment_fault s first before count need rest ≡ Some (Truncated (before + came) need)) (λ rest. came < count * size → rest ≡ []) old new front gone (end-if (came < count * size) new (λ _. ended))
    (λ rest none.
    let whole : min count (length (front ++ rest) / size) ≡ came / size = whole_came size count came front rest some long within none in
    let right : bucket_fault s first (pieces size (min count (length (front ++ rest) / size)) (front ++ rest)) ≡ None =
    ap (λ (n : ℕ). bucket_fault s first (pieces size n (front ++ rest))) whole ∙ (ap (bucket_fault s first) (pieces-front size came front rest long) ∙ is) in
    let nothing : length rest ≡ 0 = ap length (none less) in
    let all : length (front ++ rest) ≡ came = omega (arith, length-append front rest, long, nothing) in
    first_of-next _ _ right
    ∙ (ap (λ (n : ℕ). first_of (met (nat_lt n (count * size)) (Truncated (before + n) need) ∷ [])) all
    ∙ rw (lt-ltb came (count * size) less) refl))

-- ---- what came into a room, of which some is left

-- the pieces of what came are those of the room
pieces-came : (size came : ℕ) (buf rest : List ℕ) → came ≤ length buf → pieces size (came / size) (buf ++ rest) ≡ pieces size (came / size) (take came buf)
pieces-came size came buf rest within =
    let split : buf ++ rest ≡ take came buf ++ (drop came buf ++ rest) = ap (λ (b : List ℕ). b ++ rest) (sym (take-append-drop came buf)) ∙ append_assoc (take came buf) (drop came buf) rest in
    ap (pieces size (came / size)) split ∙ pieces-front size came (take came buf) (drop came buf ++ rest) (length-take-le came buf within)

-- how many records came whole
whole-few : (size count came : ℕ) → 0 < size → came ≤ count * size → came / size ≤ count
whole-few size count came some within =
    let over : came < (count + 1) * size = omega (arith, within, some) in
    let most = div_below came size (count + 1) some over in
    omega (arith, most)

pub came-bad : (s : Shape) (first before count need came size : ℕ) (old new : Option (List ℕ)) (buf rest : List ℕ) (b : BatchFault) → size ≡ bytes_of s → length buf ≡ count * bytes_of s → came ≤ length buf
    → Consumes old new (take came buf) → (came < length buf → IsAtEnd new) → Some b ≡ bucket_fault s first (pieces (bytes_of s) (came / size) (buf ++ rest))
    → IfSome old (λ left. segment_fault s first before count need left ≡ Some b)
came-bad s first before count need came size old new buf rest b same long within gone ended is =
    let few : came ≤ count * bytes_of s = omega (arith, long, within) in
    let found : bucket_fault s first (pieces (bytes_of s) (came / bytes_of s) (take came buf)) ≡ Some b =
    ap (bucket_fault s first) (sym (pieces-came (bytes_of s) came buf rest within)) ∙ (ap (λ (n : ℕ). bucket_fault s first (pieces (bytes_of s) (came / n) (buf ++ rest))) (sym same) ∙ sym is) in
    segment-bad s first before count need came old new (take came buf) b gone (length-take-le came buf within) few (λ less. ended (omega (arith, long, less))) found

pub came-short : (s : Shape) (first before count need came size : ℕ) (old new : Option (List ℕ)) (buf rest : List ℕ) → size ≡ bytes_of s → length buf ≡ count * bytes_of s → came < length buf
    → Consumes old new (take came buf) → (came < length buf → IsAtEnd new) → None ≡ bucket_fault s first (pieces (bytes_of s) (came / size) (buf ++ rest))
    → IfSome old (λ left. segment_fault s first before count need left ≡ Some (Truncated (before + came) need))
came-short s first before count need came size old new buf rest same long less gone ended is =
    let within : came ≤ length buf = omega (arith, less) in
    let few : came < count * bytes_of s = omega (arith, long, less) in
    let right : bucket_fault s first (pieces (bytes_of s) (came / bytes_of s) (take came buf)) ≡ None =
    ap (bucket_fault s first) (sym (pieces-came (bytes_of s) came buf rest within)) ∙ (ap (λ (n : ℕ). bucket_fault s first (pieces (bytes_of s) (came / n) (buf ++ rest))) (sym same) ∙ sym is) in
    segment-short s first before count need came old new (take came buf) gone (length-take-le came buf within) few (ended less) right

-- where all came, all were looked at
pub came-all : (s : Shape) (first count came size : ℕ) (room : List ℕ) → size ≡ bytes_of s → count * bytes_of s ≤ came → came ≤ count * bytes_of s → None ≡ bucket_fault s first (pieces (bytes_of s) (came / size) room)
    → bucket_fault s first (pieces (bytes_of s) count room) ≡ None
came-all s first count came size room same reaches within is =
    let some : 0 < bytes_of s = omega (arith, bytes_least s) in
    let least = le-div count came (bytes_of s) some reaches in
    let most = whole-few (bytes_of s) count came some within in
    let whole : came / bytes_of s ≡ count = omega (arith, least, most) in
    ap (λ (n : ℕ). bucket_fault s first (pieces (bytes_of s) n room)) (sym whole) ∙ (ap (λ (n : ℕ). bucket_fault s first (pieces (bytes_of s) (came / n) room)) (sym same) ∙ sym is)

-- ---- whatever the bytes

-- a bad bucket that is found, and the place of its record
record Found (s : Shape) (place count : ℕ) (b : BatchFault) : Type 0 where
  number : ℕ
  bucket : ℕ
  given : List ℕ
  is : b ≡ Bucket number bucket
  least : place ≤ number
  most : number < place + count
  of : bucket ≡ bucket_in s given
  bad : s.buckets ≤ bucket

found-at : (test : Bool) (s : Shape) (place count : ℕ) (given : List ℕ) (rest : Option BatchFault) (b : BatchFault) → (test ≡ false → s.buckets ≤ bucket_in s given)
    → (rest ≡ Some b → Found s (suc place) count b) → (if test then rest else Some (Bucket place (bucket_in s given))) ≡ Some b → Found s place (suc count) b
found-at true s place count given rest b bad more is =
    let f = more is in
    record {
      number = f.number;
      bucket = f.bucket;
      given = f.given;
      is = f.is;
      least = omega (arith, f.least);
      most = omega (arith, f.most);
      of = f.of;
      bad = f.bad;
    }
found-at false s place count given rest b bad more is = record {
  number = place;
  bucket = bucket_in s given;
  given = given;
  is = cc;
  least = omega arith;
  most = omega arith;
  of = refl;
  bad = bad refl;
}

bucket_fault-found : (s : Shape) (place : ℕ) (records : List (List ℕ)) (b : BatchFault) → bucket_fault s place records ≡ Some b → Found s place (length records) b
bucket_fault-found s place [] b is = let no : ⊥ = cc in absurd no
bucket_fault-found s place (given ∷ records) b is =
    found-at (nat_lt (bucket_in s given) s.buckets) s place (length records) given (bucket_fault s (suc place) records) b (ltb-false (bucket_in s given) s.buckets)
    (bucket_fault-found s (suc place) records b) is

-- it is one that a reading of records can have
pub segment-kind : (s : Shape) (place before count whole : ℕ) (records : List (List ℕ)) (b : BatchFault) → length records ≤ count → bucket_fault s place records ≡ Some b → IsSegmentFault s place before count whole b
segment-kind s place before count whole records b few is =
    let f = bucket_fault-found s place records b is in
    let most : f.number < place + count = omega (arith, f.most, few) in
    let here : IsSegmentFault s place before count whole (Bucket f.number f.bucket) = (f.least, most, f.given, f.of, f.bad) in
    subst (IsSegmentFault s place before count whole) (sym f.is) here

pub came-kind : (s : Shape) (first before count need came size : ℕ) (room : List ℕ) (b : BatchFault) → size ≡ bytes_of s → came ≤ count * bytes_of s
    → Some b ≡ bucket_fault s first (pieces (bytes_of s) (came / size) room) → IsSegmentFault s first before count need b
came-kind s first before count need came size room b same within is =
    let some : 0 < bytes_of s = omega (arith, bytes_least s) in
    let records = pieces (bytes_of s) (came / bytes_of s) room in
    let few : length records ≤ count = omega (arith, length-pieces (bytes_of s) (came / bytes_of s) room, whole-few (bytes_of s) count came some within) in
    segment-kind s first before count need records b few (ap (λ (n : ℕ). bucket_fault s first (pieces (bytes_of s) (came / n) room)) (sym same) ∙ sym is)
