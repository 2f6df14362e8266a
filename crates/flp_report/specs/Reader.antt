-- What a reader of a file has read and has still to read.
use Rattle.std.specs.Prelude.{◌≡◌, ℕ, ◌+◌, ◌-◌, ◌*◌, ◌^◌, ◌<◌, ◌≤◌}
use Rattle.flp_report.specs.declared.reader.Reader.{Reader}
use Rattle.flp_report.specs.declared.batch.BatchParts.{BatchParts}
use Rattle.flp_report.specs.declared.shape.Shape.{Shape}
use Rattle.flp_report.specs.Shape.{bytes_of}

-- ---- of either kind

-- the source that it reads from
abbrev pub source_of : {S P : Type 0} → Reader S P → S
source_of r = r.source.now

-- which borrow of the source it holds
abbrev pub loan_of : {S P : Type 0} → Reader S P → ℕ
loan_of r = r.source.ghost_name

-- it holds the same borrow of its source
abbrev pub SameLoan : {S P : Type 0} → Reader S P → Reader S P → Type 0
SameLoan old new = loan_of new ≡ loan_of old

-- the bytes of the file that it has read
abbrev pub place_of : {S P : Type 0} → Reader S P → ℕ
place_of r = r.place

-- the shares and proofs that the head gave
abbrev pub shares_given : {S P : Type 0} → Reader S P → ℕ
shares_given r = r.shares

abbrev pub proofs_given : {S P : Type 0} → Reader S P → ℕ
proofs_given r = r.proofs

-- they are those of before
abbrev pub SameNumbers : {S P : Type 0} → Reader S P → Reader S P → Type 0
SameNumbers old new = (shares_given new ≡ shares_given old) × (proofs_given new ≡ proofs_given old)

-- the reports that are left to read, or the jobs
abbrev pub reports_left : {S P : Type 0} → Reader S P → ℕ
reports_left r = r.left

-- ---- of a batch

abbrev pub BatchReader : Type 0 → Type 0
BatchReader S = Reader S BatchParts

-- the version, the buckets and the reports that the head gave
abbrev pub version_given : {S : Type 0} → BatchReader S → ℕ
version_given r = r.parts.version

abbrev pub buckets_given : {S : Type 0} → BatchReader S → ℕ
buckets_given r = r.parts.buckets

abbrev pub reports_given : {S : Type 0} → BatchReader S → ℕ
reports_given r = r.parts.reports

-- they are those of before
pub record SameParts {S : Type 0} (old new : BatchReader S) : Type 0 where
  pub version : version_given new ≡ version_given old
  pub buckets : buckets_given new ≡ buckets_given old
  pub reports : reports_given new ≡ reports_given old

-- the reports that it has read, so the number of the next one
abbrev pub reports_read : {S : Type 0} → BatchReader S → ℕ
reports_read r = reports_given r - reports_left r

-- the old claims that are left to read
abbrev pub claims_left : {S : Type 0} → BatchReader S → ℕ
claims_left r = r.parts.claims

-- the shape that it was given
abbrev pub shape_given : {S : Type 0} → BatchReader S → Shape
shape_given r = r.parts.shape

-- the bytes of the whole file, by its head and the shape
abbrev pub size_of_file : {S : Type 0} → BatchReader S → ℕ
size_of_file r = place_of r + 16 * claims_left r + reports_left r * bytes_of (shape_given r)

-- it has been given a shape, with which no size is above its limit, and the whole file's is one of 63 bits
pub record IsShaped {S : Type 0} (r : BatchReader S) : Type 0 where
  pub small_record : bytes_of (shape_given r) ≤ 16777216
  pub few_claims : 16 * claims_left r ≤ 268435456
  pub small_file : size_of_file r < 2 ^ 63
