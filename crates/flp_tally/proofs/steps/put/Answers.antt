use Rattle.std.proofs.Common.{arith}
use Rattle.flp_tally.proofs.Allowed.{put_allowed}
use Rattle.flp_tally.proofs.steps.put.Goals as goal

pub fetch_add-requires : goal.fetch_add-requires
fetch_add-requires g c = let seat = c.requires.seat in let long = seat.long in let cell = c.requires.may_add.cell in
    (seat.same, omega arith, put_allowed c.args.words.now.key c.args.words.now.table_id.slots c.args.place.now.id c.args.place.now.me c.args.entry g.E.Halved.entry seat.weight c.requires.entry c.requires.may_add _ (omega arith) c.requires.reports)
