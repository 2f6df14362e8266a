use Rattle.flp_tally.specs.Held.{IsSeatOf}
use Rattle.flp_pool.specs.Walk.{Walks}
use Rattle.flp_pool.proofs.walk.walk_part.Given as goal

abbrev pub invariant-loop-number : goal.invariant-loop-number
invariant-loop-number g l = IsSeatOf l.tally l.seat × Walks g.W.Work.room g.W.Work.done (g.W.Work.right l.work) (g.W.Work.row_of l.work) l.lo l.number l.initial.seat.view l.seat.view l.initial.state l.state
