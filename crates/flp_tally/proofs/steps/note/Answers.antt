use Rattle.std.proofs.Common.{arith}
use Rattle.flp_tally.proofs.Allowed.{note_allowed}
use Rattle.flp_tally.proofs.steps.note.Goals as goal

pub load-requires : goal.load-requires
load-requires g c = let seat = c.requires.seat in let long = seat.long in
    (seat.same, omega arith, note_allowed c.args.words.now.key c.args.words.now.table_id.slots c.args.place.now.id c.args.place.now.me c.args.entry g.E.Halved.entry seat.weight c.requires.entry c.requires.may_add c.requires.nothing)
