use Rattle.std.proofs.Common.{ℕ, List, ◌++◌, All, take}
use Rattle.flp_policy.specs.declared.verdict.Verdict.{Verdict}
use Rattle.flp_round.specs.Notes.{places_in, IsNoteOf, HasVerdicts}
use Rattle.flp_round.proofs.verifier.put_notes.Given as goal

abbrev pub invariant-loop-note : goal.invariant-loop-note
invariant-loop-note l =
    (right : List Verdict) (places : List ℕ) → All (IsNoteOf l.first right) l.notes → HasVerdicts l.first right places l.initial.verdicts
    → HasVerdicts l.first right (places ++ places_in (take l.note-index l.notes)) l.verdicts
