use Rattle.std.proofs.Common.{◌-◌}
use Rattle.flp_pool.proofs.Forking.{ran_all, still_ready, still_free}
use Rattle.flp_pool.proofs.range.run_range.Goals as goal

pub returns-clause-ran : goal.returns-clause-ran
returns-clause-ran g c = (ran_all g.W.Work.room g.W.Work.done (g.W.Work.right c.args.work.now) (g.W.Work.row_of c.args.work.now) c.args.lo c.args.hi
    c.run_from.new.slot c.args.seat c.in-Some.seat c.args.states.now c.run_from.new.states c.in-Some.is c.requires.range.0 c.requires.seat.1 c.requires.free c.run_from.ensures).1

pub returns-clause-again : goal.returns-clause-again
returns-clause-again g c = λ n ready. let all = ran_all g.W.Work.room g.W.Work.done (g.W.Work.right c.args.work.now) (g.W.Work.row_of c.args.work.now) c.args.lo c.args.hi
    c.run_from.new.slot c.args.seat c.in-Some.seat c.args.states.now c.run_from.new.states c.in-Some.is c.requires.range.0 c.requires.seat.1 c.requires.free c.run_from.ensures in
    still_ready g.W.Work.room g.W.Work.done (g.W.Work.right c.args.work.now) (c.args.hi - c.args.lo) n c.args.states.now c.run_from.new.states all.2.0 all.2.1 all.2.2 ready

pub returns-clause-still_free : goal.returns-clause-still_free
returns-clause-still_free g c = λ top free. let ran = (ran_all g.W.Work.room g.W.Work.done (g.W.Work.right c.args.work.now) (g.W.Work.row_of c.args.work.now) c.args.lo c.args.hi
    c.run_from.new.slot c.args.seat c.in-Some.seat c.args.states.now c.run_from.new.states c.in-Some.is c.requires.range.0 c.requires.seat.1 c.requires.free c.run_from.ensures).1 in
    still_free (g.W.Work.row_of c.args.work.now) c.args.lo c.args.hi top c.args.seat.view c.in-Some.seat.view c.requires.range.0 ran.taken free
