-- The buckets of records: which a shape has, and the first fault among them. From one record up to those of a reading.
use Rattle.std.specs.Prelude.{ℕ, suc, ◌+◌, ◌*◌, ◌/◌, ◌<◌, ◌≤◌, ◌≡◌, min, List, [], ◌∷◌, Option, Some, None, nat_lt, if◌then◌else◌, length}
use Rattle.flp_report.specs.declared.fault.BatchFault.{BatchFault}
use Rattle.flp_report.specs.declared.fault.BatchFault.TheVariants.{Truncated, Bucket}
use Rattle.flp_report.specs.declared.shape.Shape.{Shape}
use Rattle.flp_report.specs.Shape.{bytes_of}
use Rattle.flp_report.specs.Fault.{met, first_of}
use Rattle.flp_report.specs.Pieces.{pieces}
use Rattle.flp_report.specs.Record.{bucket_in}

-- a record's bucket is one of the shape's
abbrev pub HasBucket : Shape → List ℕ → Type 0
HasBucket s given = bucket_in s given < s.buckets

-- the first record whose bucket is none of them, where the first of these records has this place
abbrev pub bucket_fault : Shape → ℕ → List (List ℕ) → Option BatchFault
bucket_fault s place [] = None
bucket_fault s place (given ∷ records) = if nat_lt (bucket_in s given) s.buckets then bucket_fault s (suc place) records else Some (Bucket place (bucket_in s given))

-- the records in front of it
abbrev pub placed : Shape → List (List ℕ) → List (List ℕ)
placed s [] = []
placed s (given ∷ records) = if nat_lt (bucket_in s given) s.buckets then given ∷ placed s records else []

-- the first fault of `count` records, the first of which has this place, behind the first `before` bytes of a file of this size:
-- a whole one's bucket, or that fewer bytes came
abbrev pub segment_fault : Shape → ℕ → ℕ → ℕ → ℕ → List ℕ → Option BatchFault
segment_fault s place before count whole rest =
    first_of (
    bucket_fault s place (pieces (bytes_of s) (min count (length rest / bytes_of s)) rest)
    ∷ met (nat_lt (length rest) (count * bytes_of s)) (Truncated (before + length rest) whole)
    ∷ [])

-- a fault that they can have, whatever their bytes
abbrev pub IsSegmentFault : Shape → ℕ → ℕ → ℕ → ℕ → BatchFault → Type 0
IsSegmentFault s place before count whole (Truncated have need) = (before ≤ have) × (have < before + count * bytes_of s) × (need ≡ whole)
IsSegmentFault s place before count whole (Bucket number bucket) =
    (place ≤ number) × (number < place + count) × (given : List ℕ) × (bucket ≡ bucket_in s given) × (s.buckets ≤ bucket)
IsSegmentFault s place before count whole fault = ⊥
