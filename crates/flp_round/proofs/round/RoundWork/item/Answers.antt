use Rattle.flp_round.proofs.RoundLemmas.{noted_right}
use Rattle.flp_round.proofs.round.RoundWork.item.Goals as goal

pub returns-clause-right : goal.returns-clause-right
returns-clause-right c = noted_right c.args.self.now c.args.place c.requires.takes c.args.state.now c.verify-verdict.new.state c.note.new.self c.verify-verdict.result
    c.requires.right c.verify-verdict.ensures.made c.verify-verdict.ensures.notes c.verify-verdict.ensures.verdict
    c.note.ensures.noted c.note.ensures.count c.note.ensures.room c.note.ensures.row c.note.ensures.worker c.requires.room
