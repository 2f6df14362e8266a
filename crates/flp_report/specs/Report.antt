-- A report as it is written and as it is read again: the nonce, the bucket and the words of a record. From the parts up.
use Rattle.std.specs.Prelude.{ℕ, ◌≡◌, ◌≢◌, ◌^◌, ◌<◌, List, All, Option, Some, None, map, length}
use Rattle.flp_report.specs.declared.header.Header.{Header}
use Rattle.flp_report.specs.declared.shape.Shape.{Shape}
use Rattle.flp_report.specs.Shape.{words_of}
use Rattle.flp_report.specs.Record.{nonce_in, bucket_read, words_in}
use Rattle.flp_report.specs.Layout.{record_bytes}
use Rattle.flp_report.specs.Batch.{fault_of, header_of, claims_of, whole_records}

-- the nonce, the bucket where one is written, and the words
pub record WrittenReport : Type 0 where
  pub nonce : List ℕ
  pub bucket : Option ℕ
  pub words : List ℕ

-- a bucket is written in version 2 alone, and is one of the shape's
abbrev pub FitsBucket : Shape → Option ℕ → Type 0
FitsBucket shape None = shape.version ≢ 2
FitsBucket shape (Some bucket) = (shape.version ≡ 2) × (bucket < shape.buckets)

-- it has the nonce's length, a bucket where the version has them, and as many words of 8 bytes as the shape says
pub record IsReport (shape : Shape) (r : WrittenReport) : Type 0 where
  pub nonce : length r.nonce ≡ 16
  pub bucket : FitsBucket shape r.bucket
  pub count : length r.words ≡ words_of shape
  pub below : All (λ w. w < 2 ^ 64) r.words

-- the record that is written of it
abbrev pub record_written : WrittenReport → List ℕ
record_written r = record_bytes r.nonce r.bucket r.words

-- the report that a record of this shape is read as
abbrev pub report_read : Shape → List ℕ → WrittenReport
report_read shape bytes = record { nonce = nonce_in bytes; bucket = bucket_read shape bytes; words = words_in shape bytes }

-- a whole file is read as a batch with this header, these old claims and these reports
pub record ReadsAs (newest : ℕ) (party : Option ℕ) (shape : Shape) (bytes : List ℕ) (header : Header) (claims : List (List ℕ)) (reports : List WrittenReport) : Type 0 where
  pub no_fault : fault_of newest party shape bytes ≡ None
  pub begins : header_of bytes ≡ header
  pub counted : claims_of bytes ≡ claims
  pub holds : map (report_read shape) (whole_records newest party shape bytes) ≡ reports
