-- What a segment holds, by its records.
use Rattle.std.proofs.Common.{◌≡◌, ℕ, ◌*◌, ◌<◌, ◌≤◌, List, ◌++◌, length, take, drop, Some, sym, ap, ◌∙◌, arith, take-append-drop}
use Rattle.std.specs.Prelude.{slice_get}
use Rattle.std.proofs.Math.Nat.{mul-le-mul_right}
use Rattle.std.proofs.lemmas.List.{length-take-le}
use Rattle.flp_report.specs.declared.segment.Segment.{Segment}
use Rattle.flp_report.specs.Shape.{bytes_of}
use Rattle.flp_report.specs.Segment.{used_in, held_in, record_in, records_in}
use Rattle.flp_report.specs.Pieces.{pieces, IsCut}
use Rattle.flp_report.proofs.PiecesLemmas.{pieces-append, slice_get-pieces, IsCut-pieces}

-- the one record is all that the segment holds
pub record_in-only : (s : Segment) → used_in s ≡ 1 → record_in s 0 ≡ held_in s
record_in-only s used =
    let size = bytes_of s.shape in
    let start : 0 * size ≡ 0 = omega arith in
    let all : size ≡ s.used * size = rw used (omega arith) in
    ap (λ (n : ℕ). take size (drop n s.bytes.items)) start ∙ ap (λ (n : ℕ). take n s.bytes.items) all

-- a segment holds the shape's bytes for each record
length-held : (s : Segment) → length (held_in s) ≡ s.used * bytes_of s.shape
length-held s =
    let size = bytes_of s.shape in
    let room = mul-le-mul_right size s.in_use in
    let inside : s.used * size ≤ length s.bytes.items = omega (arith, room, s.sized, s.bytes.ok) in
    length-take-le (s.used * size) s.bytes.items inside

-- what it holds are its records
pub IsCut-held : (s : Segment) → IsCut (bytes_of s.shape) s.used (held_in s) (records_in s)
IsCut-held s = IsCut-pieces (bytes_of s.shape) s.used (held_in s) (length-held s)

-- the record of each number
pub records_in-at : (s : Segment) (index : ℕ) → index < used_in s → slice_get (records_in s) index ≡ Some (record_in s index)
records_in-at s index below =
    let size = bytes_of s.shape in
    let items = s.bytes.items in
    let held = held_in s in
    let fits : s.used * size ≤ length held = omega (arith, length-held s) in
    let same : pieces size s.used (held ++ drop (s.used * size) items) ≡ pieces size s.used held = pieces-append size s.used held (drop (s.used * size) items) fits in
    let all : pieces size s.used held ≡ pieces size s.used items = sym same ∙ ap (λ (b : List ℕ). pieces size s.used b) (take-append-drop (s.used * size) items) in
    let place : size * index ≡ index * size = grind arith in
    ap (λ (l : List (List ℕ)). slice_get l index) all
    ∙ (slice_get-pieces size s.used index items below
    ∙ ap (λ (n : ℕ). Some (take size (drop n items))) place)
