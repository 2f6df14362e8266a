-- What one worker verifies with, and what it keeps.
use Rattle.std.specs.Prelude.{◌≡◌, ℕ, ◌-◌, ◌≤◌, Option, Some, None, if◌then◌else◌, List, take, vec_len}
use Rattle.flp_report.specs.declared.shape.Shape.{Shape}
use Rattle.flp_report.specs.Shape.{width_of}
use Rattle.flp_plan.specs.View.{Compiled}
use Rattle.flp_worker.specs.Worker.{IsMadeFor}
use Rattle.flp_round.specs.declared.verifier.Note.{Note}
use Rattle.flp_round.specs.declared.verifier.Verifier.{Verifier}
use Rattle.flp_round.specs.Notes.{places_in}

-- the notes that it took since they were gathered, and their places
abbrev pub noted : Verifier → List Note
noted v = take v.count v.notes.items

abbrev pub places_of : Verifier → List ℕ
places_of v = places_in (noted v)

-- how many notes there is room for, and how many more
abbrev pub notes_room : Verifier → ℕ
notes_room v = vec_len v.notes

abbrev pub room_left : Verifier → ℕ
room_left v = vec_len v.notes - v.count

-- the row of the last record, where it was accepted
abbrev pub last_row : Verifier → Option (List ℕ)
last_row v = if v.accepted then Some v.row.items else None

-- made for records of this shape, whose circuit has this plan
pub record IsVerifierFor (plan : Compiled) (shape : Shape) (v : Verifier) : Type 0 where
  pub worker : IsMadeFor plan shape v.worker
  pub row : vec_len v.row ≡ width_of shape
  pub count : v.count ≤ vec_len v.notes

-- it has room for so many notes, and has taken none
pub record IsFresh (plan : Compiled) (shape : Shape) (room : ℕ) (v : Verifier) : Type 0 where
  pub made : IsVerifierFor plan shape v
  pub places : notes_room v ≡ room
  pub empty : v.count ≡ 0

-- it has the notes of before
pub record HasNotesOf (old new : Verifier) : Type 0 where
  pub notes : new.notes ≡ old.notes
  pub count : new.count ≡ old.count

-- it has none, and all else is as before
abbrev pub emptied : Verifier → Verifier
emptied v = record v { count = 0 }
