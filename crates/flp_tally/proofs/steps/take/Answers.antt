use Rattle.std.proofs.Common.{arith}
use Rattle.flp_tally.proofs.Allowed.{take_allowed}
use Rattle.flp_tally.proofs.steps.take.Goals as goal

pub fetch_or-requires : goal.fetch_or-requires
fetch_or-requires g c = let seat = c.requires.seat in let long = seat.long in
    (seat.same, omega arith, take_allowed c.args.words.now.key c.args.words.now.table_id.slots c.args.place.now.id c.args.place.now.me seat.weight c.args.number g.N.Numbered.number c.requires.number c.requires.below)
