-- What is found at a place of a round.
use Rattle.std.proofs.Common.{◌≡◌, ℕ, ◌+◌, ◌-◌, ◌<◌, ◌≤◌, Bool, true, false, Some, None, List, [], ◌∷◌, ◌++◌, All, length, vec_len, get_or, take, ap, sym, subst, ◌∙◌, arith}
use Rattle.std.specs.Prelude.{if◌then◌else◌, slice_get}
use Rattle.std.proofs.lemmas.Option.{get_or_from_slice_get, slice_get-get_or}
use Rattle.std.proofs.lemmas.List.Elements.{All-push}
use Rattle.flp_report.specs.Shape.{bytes_of}
use Rattle.flp_report.specs.Record.{bucket_in}
use Rattle.flp_report.specs.Segment.{held_in, records_in}
use Rattle.flp_report.proofs.PiecesLemmas.{length-pieces}
use Rattle.flp_policy.specs.declared.verdict.Verdict.{Verdict}
use Rattle.flp_policy.specs.declared.verdict.Verdict.TheVariants.{Accepted, Replayed}
use Rattle.flp_policy.specs.Verdicts.{is_accepted}
use Rattle.flp_worker.specs.Worker.{Working, IsMadeFor}
use Rattle.flp_worker.specs.Verdict.{verdict_of}
use Rattle.flp_round.specs.declared.round.Round.{Round}
use Rattle.flp_round.specs.declared.verifier.Note.{Note}
use Rattle.flp_round.specs.declared.verifier.Verifier.{Verifier}
use Rattle.flp_round.specs.Findings.{verdict_on, row_on, outs_row}
use Rattle.flp_round.specs.Notes.{IsNoteOf}
use Rattle.flp_round.specs.Verifier.{IsVerifierFor, HasNotesOf, noted, notes_room, room_left}
use Rattle.flp_round.specs.Round.{size_of, HasPlace, IsRight, verdicts_in, row_at}
use Rattle.flp_round.proofs.FindingsLemmas as findings

pub same_count : (r : Round) → length r.replayed.now ≡ length (records_in r.segment.now)
same_count r = r.marks ∙ sym (length-pieces (bytes_of r.segment.now.shape) r.segment.now.used (held_in r.segment.now))

pub length-verdicts_in : (r : Round) → length (verdicts_in r) ≡ size_of r
length-verdicts_in r = findings.length-verdicts_by r.plan.now.circuit r.shape r.replayed.now (records_in r.segment.now) (same_count r) ∙ (sym (same_count r) ∙ r.marks)

module _ (r : Round) (place : ℕ) (here : HasPlace r place) where
  below : place - r.first < length r.replayed.now
  below = let many = r.marks in let from = here.0 in let to = here.1 in omega arith

  inside : place - r.first < length (records_in r.segment.now)
  inside = let many = same_count r in let b = below in omega arith

  module _ (m : Bool) (mark : slice_get r.replayed.now (place - r.first) ≡ Some m) where
    module _ (report : List ℕ) (is : slice_get (records_in r.segment.now) (place - r.first) ≡ Some report) where
      verdict_is : get_or (verdicts_in r) (place - r.first) Replayed ≡ verdict_on r.plan.now.circuit r.shape (record { replayed = m; report = report })
      verdict_is = findings.verdict_at r.plan.now.circuit r.shape r.replayed.now (records_in r.segment.now) (same_count r) (place - r.first) m report below
          (get_or_from_slice_get r.replayed.now (place - r.first) m m mark) (get_or_from_slice_get (records_in r.segment.now) (place - r.first) report report is)

      row_is : row_at r place ≡ row_on r.plan.now.circuit r.shape (record { replayed = m; report = report })
      row_is = findings.row_at r.plan.now.circuit r.shape r.replayed.now (records_in r.segment.now) (same_count r) (place - r.first) m report below
          (get_or_from_slice_get r.replayed.now (place - r.first) m m mark) (get_or_from_slice_get (records_in r.segment.now) (place - r.first) report report is)

      -- a record that is not replayed
      pub new_verdict : (v : Verdict) → m ≡ false → v ≡ verdict_of r.plan.now.circuit r.shape report → v ≡ get_or (verdicts_in r) (place - r.first) Replayed
      new_verdict v unmarked found = found ∙ sym (verdict_is ∙ ap (λ (b : Bool). verdict_on r.plan.now.circuit r.shape (record { replayed = b; report = report })) unmarked)

      pub new_row : (v : Verdict) (held : List ℕ) → m ≡ false → v ≡ verdict_of r.plan.now.circuit r.shape report → (v ≡ Accepted → held ≡ outs_row r.plan.now.circuit r.shape report)
          → row_at r place ≡ (if is_accepted v then Some held else None)
      new_row v held unmarked found row =
          row_is
          ∙ (ap (λ (b : Bool). row_on r.plan.now.circuit r.shape (record { replayed = b; report = report })) unmarked
          ∙ (ap (λ (w : Verdict). if is_accepted w then Some (outs_row r.plan.now.circuit r.shape report) else None) (sym found)
          ∙ findings.same_row v (outs_row r.plan.now.circuit r.shape report) held row))

    some_report : slice_get (records_in r.segment.now) (place - r.first) ≡ Some (get_or (records_in r.segment.now) (place - r.first) [])
    some_report = slice_get-get_or (records_in r.segment.now) (place - r.first) [] inside

    -- a record that is replayed
    pub replayed_verdict : m ≡ true → Replayed ≡ get_or (verdicts_in r) (place - r.first) Replayed
    replayed_verdict known =
        let report = get_or (records_in r.segment.now) (place - r.first) [] in
        sym (verdict_is report some_report ∙ ap (λ (b : Bool). verdict_on r.plan.now.circuit r.shape (record { replayed = b; report = report })) known)

    pub replayed_row : m ≡ true → row_at r place ≡ None
    replayed_row known =
        let report = get_or (records_in r.segment.now) (place - r.first) [] in
        row_is report some_report ∙ ap (λ (b : Bool). row_on r.plan.now.circuit r.shape (record { replayed = b; report = report })) known

  pub has_bucket : (report : List ℕ) → slice_get (records_in r.segment.now) (place - r.first) ≡ Some report → bucket_in r.shape report < r.shape.buckets
  has_bucket report is =
      subst (λ (l : List ℕ). bucket_in r.shape l < r.shape.buckets) (get_or_from_slice_get (records_in r.segment.now) (place - r.first) report [] is) (r.buckets (place - r.first) [] inside)

  -- a state stays right when the verdict of the place is noted
  pub noted_right : (old mid new : Verifier) (verdict : Verdict) → IsRight r old → IsVerifierFor r.plan.now r.shape mid → HasNotesOf old mid → verdict ≡ get_or (verdicts_in r) (place - r.first) Replayed
      → noted new ≡ noted mid ++ record { place = place; verdict = verdict } ∷ [] → new.count ≡ mid.count + 1 → notes_room new ≡ notes_room mid → new.row ≡ mid.row → new.worker ≡ mid.worker → 1 ≤ room_left old → IsRight r new
  noted_right old mid new verdict right made same found more count room row worker left =
      let notes : noted mid ≡ noted old = λ i. take (same.count i) ((same.notes i).items) in
      let before = same.count in
      let size : notes_room mid ≡ notes_room old = λ i. vec_len (same.notes i) in
      let from = here.0 in let to = here.1 in let many = length-verdicts_in r in
      record {
        made = record {
          worker = subst (λ (w : Working). IsMadeFor r.plan.now r.shape w) (sym worker) made.worker;
          row = (λ i. vec_len (row i)) ∙ made.row;
          count = omega arith;
        };
        notes = subst (λ (l : List Note). All (IsNoteOf r.first (verdicts_in r)) l) (sym (more ∙ ap (λ (l : List Note). l ++ record { place = place; verdict = verdict } ∷ []) notes))
            (All-push (IsNoteOf r.first (verdicts_in r)) (noted old) (record { place = place; verdict = verdict }) right.notes record { within = record { from = from; to = omega arith }; says = sym found });
      }
