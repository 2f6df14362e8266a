-- The batch file of both versions, from its parts up to the first fault of a whole file.
use Rattle.std.specs.Prelude.{ℕ, ◌+◌, ◌*◌, ◌/◌, ◌==◌, ◌≡◌, ◌≢◌, ◌⊎◌, ◌≤◌, ◌<◌, min, List, [], ◌∷◌, ◌++◌, Option, Some, None, IfSome, codes, nat_lt, if◌then◌else◌, length, take, drop}
use Rattle.std.specs.Option.{option_map}
use Rattle.byteorder.specs.Endian.{little_number}
use Rattle.flp_report.specs.declared.fault.BatchFault.{BatchFault}
use Rattle.flp_report.specs.declared.fault.BatchFault.TheVariants.{ClaimsOrder, TooLarge, Truncated, Trailing, Buckets, Width}
use Rattle.flp_report.specs.declared.header.Header.{Header}
use Rattle.flp_report.specs.declared.shape.Shape.{Shape}
use Rattle.flp_report.specs.Shape.{bytes_of, width_of}
use Rattle.flp_report.specs.Fault.{met, first_of, ended}
use Rattle.flp_report.specs.Head.{number_at, numbers_fault, start_fault, stop_of, IsStartFault, IsTextCut}
use Rattle.flp_report.specs.Pieces.{pieces, fall_in}
use Rattle.flp_report.specs.Buckets.{bucket_fault, placed}

-- ---- in front of the old claims

-- the letters with which a batch begins
abbrev pub batch_letters : List ℕ
batch_letters = codes "FLPBATCH"

-- the bytes in front of the text: the letters and six numbers, and behind them in version 2 the number of buckets
abbrev pub head_size : ℕ → ℕ
head_size version = if version == 2 then 36 else 32

-- the number of buckets, where this follows the first 32 bytes: version 1 has one
abbrev pub buckets_at : ℕ → List ℕ → ℕ
buckets_at version rest = if version == 2 then little_number 4 rest else 1

-- the first fault of that number
abbrev pub buckets_fault : ℕ → List ℕ → Option BatchFault
buckets_fault version rest = if version == 2 then first_of (
    ended 32 36 rest
    ∷ met (nat_lt (little_number 4 rest) 1) (Buckets (little_number 4 rest))
    ∷ met (nat_lt 256 (little_number 4 rest)) (Buckets (little_number 4 rest))
    ∷ []) else None

-- the bytes that hold it, which are none in version 1
pub record IsBucketsPart (version : ℕ) (part : List ℕ) (buckets : ℕ) : Type 0 where
  pub size : length part + 32 ≡ head_size version
  pub says : (rest : List ℕ) → buckets_at version (part ++ rest) ≡ buckets
  pub none : (rest : List ℕ) → buckets_fault version (part ++ rest) ≡ None
  pub least : 1 ≤ buckets
  pub most : buckets ≤ 256
  pub one : version ≢ 2 → buckets ≡ 1

-- where the text begins, and where it ends
abbrev pub text_start : List ℕ → ℕ
text_start bytes = head_size (number_at 8 bytes)

abbrev pub batch_text_end : List ℕ → ℕ
batch_text_end bytes = text_start bytes + number_at 20 bytes

-- what stands in front of the old claims
abbrev pub header_of : List ℕ → Header
header_of bytes = record {
  version = number_at 8 bytes;
  shares = number_at 12 bytes;
  proofs = number_at 16 bytes;
  text = take (number_at 20 bytes) (drop (text_start bytes) bytes);
  claims = number_at 24 bytes;
  reports = number_at 28 bytes;
  buckets = buckets_at (number_at 8 bytes) (drop 32 bytes);
}

-- the first fault of a file up to the end of its text, where versions up to the newest are read
abbrev pub batch_head_fault : ℕ → Option ℕ → List ℕ → Option BatchFault
batch_head_fault newest party bytes =
    first_of (
    ended 0 32 bytes
    ∷ numbers_fault batch_letters newest party bytes
    ∷ buckets_fault (number_at 8 bytes) (drop 32 bytes)
    ∷ ended (text_start bytes) (batch_text_end bytes) (drop (text_start bytes) bytes)
    ∷ [])

-- where a reading stops that goes on to a later place if the head has no fault in front of its text
abbrev pub batch_stop : ℕ → Option ℕ → ℕ → List ℕ → ℕ
batch_stop newest party later bytes = stop_of 32 (stop_of 36 later (buckets_fault (number_at 8 bytes) (drop 32 bytes))) (start_fault batch_letters 32 newest party bytes)

-- the most bytes that a head takes from a source that has these left
abbrev pub batch_head_takes : ℕ → Option ℕ → List ℕ → ℕ
batch_head_takes newest party bytes = batch_stop newest party (batch_text_end bytes) bytes

-- a fault that the number of buckets can have, whatever its bytes
abbrev pub IsBucketsFault : BatchFault → Type 0
IsBucketsFault (Truncated have need) = (32 ≤ have) × (have < need) × (need ≡ 36)
IsBucketsFault (Buckets buckets) = (buckets < 1) ⊎ (256 < buckets)
IsBucketsFault fault = ⊥

-- a fault that a head can have, whatever its bytes
abbrev pub IsBatchHeadFault : ℕ → Option ℕ → BatchFault → Type 0
IsBatchHeadFault newest party fault = IsStartFault 32 newest party fault ⊎ (IsBucketsFault fault ⊎ ((version : ℕ) × IsTextCut (head_size version) fault))

-- ---- sizes and old claims

-- the first number above its limit: the bytes of a record, those of the old claims, the numbers that are summed
abbrev pub large_fault : Shape → ℕ → Option BatchFault
large_fault shape claims =
    first_of (
    met (nat_lt 16777216 (bytes_of shape)) (TooLarge (bytes_of shape))
    ∷ met (nat_lt 268435456 (16 * claims)) (TooLarge (16 * claims))
    ∷ met (nat_lt 65536 (width_of shape)) (Width (width_of shape))
    ∷ [])

-- the first fault of this many old claims, nonces of 16 bytes in strictly rising order behind the first `before` bytes
abbrev pub claims_fault : ℕ → ℕ → List ℕ → Option BatchFault
claims_fault before count rest =
    first_of (
    ended before (before + 16 * count) rest
    ∷ option_map ClaimsOrder (fall_in (pieces 16 count rest))
    ∷ [])

-- a fault that these old claims can have, whatever their bytes
abbrev pub IsClaimsFault : ℕ → ℕ → BatchFault → Type 0
IsClaimsFault before count (Truncated have need) = (before ≤ have) × (have < need) × (need ≡ before + 16 * count)
IsClaimsFault before count (ClaimsOrder number) = (1 ≤ number) × (number < count)
IsClaimsFault before count fault = ⊥

-- where the old claims end
abbrev pub claims_end : List ℕ → ℕ
claims_end bytes = batch_text_end bytes + 16 * number_at 24 bytes

-- the old claims, 16 bytes each
abbrev pub claims_of : List ℕ → List (List ℕ)
claims_of bytes = pieces 16 (number_at 24 bytes) (drop (batch_text_end bytes) bytes)

-- ---- records, and the whole file

-- of this many records those that are whole in these bytes
abbrev pub whole_of : Shape → ℕ → List ℕ → List (List ℕ)
whole_of shape reports rest = pieces (bytes_of shape) (min reports (length rest / bytes_of shape)) rest

-- the first fault of this many records behind the first `before` bytes of a file: a whole one's bucket comes first
abbrev pub records_fault : Shape → ℕ → ℕ → List ℕ → Option BatchFault
records_fault shape before reports rest =
    first_of (
    bucket_fault shape 0 (whole_of shape reports rest)
    ∷ ended before (before + reports * bytes_of shape) rest
    ∷ met (nat_lt (before + reports * bytes_of shape) (before + length rest)) Trailing
    ∷ [])

-- the size that the head gives to a file whose records have this shape
abbrev pub file_size : Shape → List ℕ → ℕ
file_size shape bytes = claims_end bytes + number_at 28 bytes * bytes_of shape

-- the first fault of a file up to its old claims, the circuit's own fault aside
abbrev pub front_fault : ℕ → Option ℕ → Shape → List ℕ → Option BatchFault
front_fault newest party shape bytes =
    first_of (
    batch_head_fault newest party bytes
    ∷ large_fault shape (number_at 24 bytes)
    ∷ claims_fault (batch_text_end bytes) (number_at 24 bytes) (drop (batch_text_end bytes) bytes)
    ∷ [])

-- the first fault of a file whose records have this shape, or none where it is a batch
abbrev pub fault_of : ℕ → Option ℕ → Shape → List ℕ → Option BatchFault
fault_of newest party shape bytes =
    first_of (
    front_fault newest party shape bytes
    ∷ records_fault shape (claims_end bytes) (number_at 28 bytes) (drop (claims_end bytes) bytes)
    ∷ [])

-- the records of a file without a fault in front of them: those that are whole, up to a bucket that the shape has not
abbrev pub records_of : Shape → List ℕ → List (List ℕ)
records_of shape bytes = placed shape (whole_of shape (number_at 28 bytes) (drop (claims_end bytes) bytes))

-- records, where no fault stands in front of them
abbrev pub records_before : Option BatchFault → List (List ℕ) → List (List ℕ)
records_before None records = records
records_before (Some fault) records = []

-- the records of which all bytes are there and which stand in front of the first fault
abbrev pub whole_records : ℕ → Option ℕ → Shape → List ℕ → List (List ℕ)
whole_records newest party shape bytes = records_before (front_fault newest party shape bytes) (records_of shape bytes)

-- ---- what the calls of a reader gave

-- the bytes in front of the old claims of a batch without a fault up to there, and what they say
pub record IsHead (newest : ℕ) (party : Option ℕ) (bytes : List ℕ) (header : Header) : Type 0 where
  pub size : length bytes ≡ batch_text_end bytes
  pub none : batch_head_fault newest party bytes ≡ None
  pub same : header ≡ header_of bytes

-- the numbers of a header are within their limits, and a party that is asked for has a share
pub record IsInLimits (newest : ℕ) (party : Option ℕ) (header : Header) : Type 0 where
  pub least_version : 1 ≤ header.version
  pub most_version : header.version ≤ newest
  pub least_shares : 2 ≤ header.shares
  pub most_shares : header.shares ≤ 16
  pub least_proofs : 1 ≤ header.proofs
  pub most_proofs : header.proofs ≤ 16
  pub own_share : IfSome party (λ p. p < header.shares)
  pub text : length header.text ≤ 65536
  pub least_buckets : 1 ≤ header.buckets
  pub most_buckets : header.buckets ≤ 256
  pub one_bucket : header.version ≢ 2 → header.buckets ≡ 1

-- the bytes in front of the records of a batch without a fault up to there: a head, and old claims
pub record IsFront (newest : ℕ) (party : Option ℕ) (shape : Shape) (bytes : List ℕ) (header : Header) : Type 0 where
  pub head : List ℕ
  pub claims : List ℕ
  pub is : bytes ≡ head ++ claims
  pub says : IsHead newest party head header
  pub fits : large_fault shape header.claims ≡ None
  pub size : length claims ≡ 16 * header.claims
  pub rising : fall_in (pieces 16 header.claims claims) ≡ None
