use Rattle.std.proofs.Common.{◌<◌, ◌+◌, ◌++◌, List, length, get_or, subst, arith}
use Rattle.std.proofs.lemmas.List.{get_or_default, take_all}
use Rattle.flp_policy.specs.declared.verdict.Verdict.TheVariants.{Accepted}
use Rattle.flp_round.specs.declared.verifier.Note.{Note}
use Rattle.flp_round.specs.Notes.{places_in, HasVerdicts}
use Rattle.flp_round.proofs.NotesLemmas.{note_more}
use Rattle.flp_round.proofs.verifier.put_notes.Goals as goal

pub loop-note-preserved : goal.loop-note-preserved
loop-note-preserved c = λ right places all has.
    let i = c.loop-note.note-index in let notes = c.args.notes.now in
    let none : Note = record { place = 0; verdict = Accepted } in
    let n : Note = get_or notes i none in
    let below : i < length notes = omega arith in
    let within = (c.requires i none below).to in
    let inside : n.place < c.args.first + length c.loop-note.verdicts = omega arith in
    note_more c.args.first right c.loop-note.verdicts places notes i n below (get_or_default notes i n none below) all inside (c.loop-note.invariant right places all has)

pub returns-clause-put : goal.returns-clause-put
returns-clause-put c = λ right places all has.
    subst (λ (l : List Note). HasVerdicts c.args.first right (places ++ places_in l) c.loop-note.verdicts) (take_all c.loop-note.note-index c.args.notes.now (omega arith)) (c.loop-note.invariant right places all has)
