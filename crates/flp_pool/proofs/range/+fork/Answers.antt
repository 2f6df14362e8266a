use Rattle.std.proofs.Common.{sym, ◌∙◌}
use Rattle.flp_pool.proofs.Forking.{ran_one, ran_both}
use Rattle.flp_pool.proofs.range.+fork.Goals as goal

pub run_from-returns-then-states-eq1 : goal.run_from-returns-then-states-eq1
run_from-returns-then-states-eq1 g t c = ran_one g.W.Work.room g.W.Work.done (g.W.Work.right c.args.work.now) (g.W.Work.row_of c.args.work.now) c.args.span.lo c.args.span.hi
    c.args.slot.now c.in-Some.seat c.walk_round.new.seat c.args.tally.now _ c.args.states.now c.index-states-0.result c.walk_round.new.state (sym c.take.ensures.value ∙ c.in-Some.is) c.requires.seat c.walk_round.ensures.seat c.if-states-eq1.true c.walk_round.ensures.walk

pub run_from-returns : goal.run_from-returns
run_from-returns g t c = ran_both g.W.Work.room g.W.Work.done (g.W.Work.right c.args.work.now) (g.W.Work.row_of c.args.work.now) c.args.span.lo c.args.span.hi
    c.args.slot.now c.run_both.new.one c.run_both.new.two c.in-Some.seat c.split-one.result.0 c.split-one.result.1 c.in-Some-Some.one c.in-Some-Some.two c.join.result c.args.tally.now _
    c.args.states.now c.split_at_mut-a.result.0.now c.split_at_mut-a.result.1.now c.run_both.new.a c.run_both.new.b (sym c.take.ensures.value ∙ c.in-Some.is) c.in-Some-Some.is-0 c.in-Some-Some.is-1
    c.requires.seat c.join.ensures.seat c.split-one.ensures.first c.split-one.ensures.second c.join.ensures.view c.join.ensures.once c.join.ensures.all c.split_at_mut-a.ensures.value c.run_both.ensures.left c.run_both.ensures.right
