use Rattle.std.proofs.Common.{arith}
use Rattle.flp_worker.proofs.PartLemmas.{own-inside}
use Rattle.flp_worker.proofs.words.Words.own_start.Goals as goal

pub returns-clause-room : goal.returns-clause-room
returns-clause-room c =
    let fits = own-inside c.args.self.now.shape c.args.proof c.requires in
    rw (c.from.ensures, c.from-2.ensures, c.from-3.ensures, c.from-4.ensures, c.part.ensures.words)
    (omega (arith, fits, c.args.self.now.whole))
