-- What the writers append: the layout of a batch, from its parts.
use Rattle.std.specs.Prelude.{ℕ, ◌<◌, ◌≤◌, ◌==◌, ◌^◌, Option, Some, None, List, [], ◌∷◌, ◌++◌, if◌then◌else◌, length}
use Rattle.std.specs.List.{flat_map}
use Rattle.byteorder.specs.Endian.{little_bytes}
use Rattle.flp_report.specs.declared.header.Header.{Header}
use Rattle.flp_report.specs.Batch.{batch_letters, IsInLimits}

-- the numbers behind the letters, the version first and in version 2 the buckets last
abbrev pub head_numbers : Header → List ℕ
head_numbers h = h.version ∷ h.shares ∷ h.proofs ∷ length h.text ∷ h.claims ∷ h.reports ∷ (if h.version == 2 then h.buckets ∷ [] else [])

-- the bytes in front of the old claims, the lowest byte of each number first
abbrev pub head_bytes : Header → List ℕ
head_bytes h = (batch_letters ++ flat_map (little_bytes 4) (head_numbers h)) ++ h.text

-- the bytes of words, 8 each, the lowest first
abbrev pub word_bytes : List ℕ → List ℕ
word_bytes words = flat_map (little_bytes 8) words

-- the bytes of a record's bucket, where it has one
abbrev pub bucket_bytes : Option ℕ → List ℕ
bucket_bytes None = []
bucket_bytes (Some bucket) = little_bytes 4 bucket

-- the bytes of a record
abbrev pub record_bytes : List ℕ → Option ℕ → List ℕ → List ℕ
record_bytes nonce bucket words = nonce ++ (bucket_bytes bucket ++ word_bytes words)

-- a header that can be written: its numbers are within their limits, and fit their bytes
pub record IsWritable (newest : ℕ) (party : Option ℕ) (h : Header) : Type 0 where
  pub newest_is : newest ≤ 2
  pub limits : IsInLimits newest party h
  pub claims : h.claims < 2 ^ 32
  pub reports : h.reports < 2 ^ 32
