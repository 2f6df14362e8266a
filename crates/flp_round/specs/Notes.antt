-- What a worker notes of places, and the verdicts that come of it. The first verdict has the place `first`.
use Rattle.std.specs.Prelude.{◌≡◌, ℕ, ◌+◌, ◌-◌, ◌<◌, ◌≤◌, List, length, map, slice_index_or}
use Rattle.flp_tally.specs.Views.{times}
use Rattle.flp_policy.specs.declared.verdict.Verdict.{Verdict}
use Rattle.flp_policy.specs.declared.verdict.Verdict.TheVariants.{Replayed}
use Rattle.flp_round.specs.declared.verifier.Note.{Note}

-- the places of notes
abbrev pub places_in : List Note → List ℕ
places_in notes = map (λ n. n.place) notes

-- a note is of one of n places
pub record IsWithin (first n : ℕ) (note : Note) : Type 0 where
  pub from : first ≤ note.place
  pub to : note.place < first + n

-- it says what the verdict of its place is
pub record IsNoteOf (first : ℕ) (verdicts : List Verdict) (note : Note) : Type 0 where
  pub within : IsWithin first (length verdicts) note
  pub says : slice_index_or verdicts (note.place - first) Replayed ≡ note.verdict

-- each of these places has its verdict
abbrev pub HasVerdicts : (first : ℕ) → (verdicts : List Verdict) → (places : List ℕ) → List Verdict → Type 0
HasVerdicts first verdicts places found =
    (index : ℕ) → 1 ≤ times (first + index) places → slice_index_or found index Replayed ≡ slice_index_or verdicts index Replayed
