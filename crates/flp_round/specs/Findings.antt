-- What is found of the records of a segment, and the rows that they bring. From one record up to all of them.
use Rattle.std.specs.Prelude.{ℕ, ◌+◌, ◌-◌, ◌*◌, Bool, if◌then◌else◌, Option, Some, None, List, [], ◌∷◌, ◌++◌, length, map, replicate, slice_index_or}
use Rattle.flp_syntax.specs.Tree.{Program}
use Rattle.flp_report.specs.declared.shape.Shape.{Shape}
use Rattle.flp_report.specs.Record.{bucket_in}
use Rattle.flp_policy.specs.declared.verdict.Verdict.{Verdict}
use Rattle.flp_policy.specs.declared.verdict.Verdict.TheVariants.{Replayed}
use Rattle.flp_policy.specs.Verdicts.{is_accepted}
use Rattle.flp_worker.specs.Verdict.{verdict_of, outs_in}

-- ---- of one record

-- a record, beside whether it is replayed
pub record Marked : Type 0 where
  pub replayed : Bool
  pub report : List ℕ

-- its verdict
abbrev pub verdict_on : Program → Shape → Marked → Verdict
verdict_on program shape m = if m.replayed then Replayed else verdict_of program shape m.report

-- outs in the places of their bucket, and 0 in those of all others
abbrev pub row_with : (buckets bucket : ℕ) → (outs : List ℕ) → List ℕ
row_with buckets bucket outs =
    replicate (bucket * length outs) 0 ++ (outs ++ replicate ((buckets - (bucket + 1)) * length outs) 0)

-- the outs of a record, in the places of its bucket
abbrev pub outs_row : Program → Shape → (report : List ℕ) → List ℕ
outs_row program shape report = row_with shape.buckets (bucket_in shape report) (outs_in program shape report)

-- the row that it brings, where it is accepted
abbrev pub row_on : Program → Shape → Marked → Option (List ℕ)
row_on program shape m = if is_accepted (verdict_on program shape m) then Some (outs_row program shape m.report) else None

-- ---- of all records

-- each record beside its mark
abbrev pub marked : (marks : List Bool) → (reports : List (List ℕ)) → List Marked
marked [] reports = []
marked (mark ∷ marks) [] = []
marked (mark ∷ marks) (report ∷ reports) = record { replayed = mark; report = report } ∷ marked marks reports

-- the verdict on each
abbrev pub verdicts_by : Program → Shape → (marks : List Bool) → (reports : List (List ℕ)) → List Verdict
verdicts_by program shape marks reports = map (verdict_on program shape) (marked marks reports)

-- the row of each
abbrev pub rows_by : Program → Shape → (marks : List Bool) → (reports : List (List ℕ)) → List (Option (List ℕ))
rows_by program shape marks reports = map (row_on program shape) (marked marks reports)

-- the row at a place of the batch, where the first of these rows has the place `first`
abbrev pub row_from : (first : ℕ) → (rows : List (Option (List ℕ))) → (place : ℕ) → Option (List ℕ)
row_from first rows place = slice_index_or rows (place - first) None
