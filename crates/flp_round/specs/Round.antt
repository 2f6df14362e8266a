-- A segment that is verified, as contracts see it.
use Rattle.std.specs.Prelude.{ℕ, ◌+◌, ◌<◌, ◌≤◌, Option, List, All}
use Rattle.flp_report.specs.Segment.{used_in, records_in}
use Rattle.flp_policy.specs.declared.verdict.Verdict.{Verdict}
use Rattle.flp_round.specs.declared.round.Round.{Round}
use Rattle.flp_round.specs.declared.verifier.Verifier.{Verifier}
use Rattle.flp_round.specs.Findings.{verdicts_by, rows_by, row_from}
use Rattle.flp_round.specs.Notes.{IsNoteOf}
use Rattle.flp_round.specs.Verifier.{noted, IsVerifierFor}

-- how many records it has, and the place in the batch that follows the last of them
abbrev pub size_of : Round → ℕ
size_of r = used_in r.segment.now

abbrev pub end_of : Round → ℕ
end_of r = r.first + size_of r

-- the verdicts on its records, in their order
abbrev pub verdicts_in : Round → List Verdict
verdicts_in r = verdicts_by r.plan.now.circuit r.shape r.replayed.now (records_in r.segment.now)

-- the row that the record at a place of the batch brings
abbrev pub row_at : Round → (place : ℕ) → Option (List ℕ)
row_at r place = row_from r.first (rows_by r.plan.now.circuit r.shape r.replayed.now (records_in r.segment.now)) place

-- the place is one of its records'
abbrev pub HasPlace : Round → (place : ℕ) → Type 0
HasPlace r place = (r.first ≤ place) × (place < end_of r)

-- a verifier is made for its records, and its notes say what the verdicts are
pub record IsRight (r : Round) (v : Verifier) : Type 0 where
  pub made : IsVerifierFor r.plan.now r.shape v
  pub notes : All (IsNoteOf r.first (verdicts_in r)) (noted v)
