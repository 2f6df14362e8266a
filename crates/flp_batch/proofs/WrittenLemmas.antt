-- A batch that is written for a circuit, without old claims, is a batch of it.
use Rattle.std.proofs.Common.{ℕ, ◌≡◌, ◌<◌, ◌≤◌, List, [], ◌∷◌, ◌++◌, length, drop, Option, None, refl, sym, subst, arith, append-nil}
use Rattle.std.specs.List.{All, concat}
use Rattle.flp_syntax.specs.declared.syntax.Params.{Params}
use Rattle.flp_syntax.specs.Tree.{Program}
use Rattle.flp_load.specs.Loaded.{IsLoaded}
use Rattle.flp_report.specs.declared.header.Header.{Header}
use Rattle.flp_report.specs.declared.header.JobHeader.{JobHeader}
use Rattle.flp_report.specs.declared.shape.Shape.{Shape}
use Rattle.flp_report.specs.Head.{number_at}
use Rattle.flp_report.specs.Shape.{bytes_of}
use Rattle.flp_report.specs.Job.{made_header}
use Rattle.flp_report.specs.Layout.{head_bytes, IsWritable}
use Rattle.flp_report.specs.Batch.{batch_head_fault, batch_text_end, large_fault, claims_fault, records_fault, header_of, claims_of, claims_end, front_fault, fault_of, whole_records}
use Rattle.flp_report.proofs.FaultLemmas.{none-at}
use Rattle.flp_report.proofs.BucketLemmas.{placed-one}
use Rattle.flp_report.proofs.BackLemmas.{reads_back}
use Rattle.flp_batch.specs.Setting.{Setting, IsShapeBehind}
use Rattle.flp_batch.specs.Format.{newest_read}
use Rattle.flp_batch.specs.File.{IsBatch}

-- a batch without a fault has none in its head
none-head : (party : Option ℕ) (shape : Shape) (batch : List ℕ) → fault_of newest_read party shape batch ≡ None → batch_head_fault newest_read party batch ≡ None
none-head party shape batch none =
    let front : front_fault newest_read party shape batch ≡ None =
    none-at (front_fault newest_read party shape batch ∷ records_fault shape (claims_end batch) (number_at 28 batch) (drop (claims_end batch) batch) ∷ []) 0 none in
    none-at
    (
    batch_head_fault newest_read party batch
    ∷ large_fault shape (number_at 24 batch)
    ∷ claims_fault (batch_text_end batch) (number_at 24 batch) (drop (batch_text_end batch) batch)
    ∷ []
    ) 0 front

-- what its records are judged by
abbrev written_setting : Option Params → Program → Shape → Setting
written_setting params circuit shape = record { params = params; circuit = circuit; shape = shape; claims = [] }

-- what is written is a batch with these records
pub record IsWritten (party : Option ℕ) (batch : List ℕ) (params : Option Params) (circuit : Program) (shape : Shape) (records : List (List ℕ)) : Type 0 where
  pub is_batch : IsBatch party batch params (written_setting params circuit shape)
  pub records_are : whole_records newest_read party shape batch ≡ records

-- what is read of it
abbrev IsRead : Option ℕ → Header → Shape → (records : List (List ℕ)) → (batch : List ℕ) → Type 0
IsRead party header shape records batch =
    (fault_of newest_read party shape batch ≡ None) × (header_of batch ≡ header) × (claims_of batch ≡ []) × (whole_records newest_read party shape batch ≡ records)

-- behind a head within its limits, whose text is this circuit's, so many records as it says, of this size
pub batch_written :
    (party : Option ℕ) (head : JobHeader) (params : Option Params) (circuit : Program) (shape : Shape) (records : List (List ℕ))
    → IsWritable newest_read party (made_header head) → IsLoaded head.text params circuit → IsShapeBehind (made_header head) circuit shape
    → large_fault shape 0 ≡ None → All (λ r. length r ≡ bytes_of shape) records → length records ≡ head.jobs
    → IsWritten party (head_bytes (made_header head) ++ concat records) params circuit shape records
batch_written party head params circuit shape records writable text fits small sizes count =
    let header = made_header head in
    let batch = head_bytes header ++ concat records in
    let placed = placed-one shape records (λ two. let no : ⊥ = omega (arith, two, fits.version) in no) (omega (arith, fits.buckets)) in
    let read : IsRead party header shape records batch =
    subst (λ (front : List ℕ). IsRead party header shape records (front ++ concat records)) (append-nil (head_bytes header))
    (reads_back newest_read party shape header [] records writable small refl refl sizes placed count) in
    let P : Header → Type 0 = λ h. IsLoaded h.text params circuit in
    let Q : Header → Type 0 = λ h. IsShapeBehind h circuit shape in
    record {
      is_batch = record {
        has = record {
          head = none-head party shape batch read.0;
          text = subst P (sym read.1) text;
          fits = record { params_are = refl; shape = subst Q (sym read.1) fits; claims = read.2 };
        };
        no_fault = read.0;
      };
      records_are = read.3;
    }
