use Rattle.std.proofs.Common.{◌+◌, arith}
use Rattle.flp_pool.proofs.Once.{once_parts}
use Rattle.flp_pool.proofs.Walking.{walks_none, walks_then, walks_taken, walks_looked}
use Rattle.flp_pool.proofs.walk.walk_part.Goals.{then-not-is_passed, else-not-is_passed}
use Rattle.flp_pool.proofs.walk.walk_part.Goals as goal

pub loop-number-init : goal.loop-number-init
loop-number-init g c = (c.requires.seat, walks_none g.W.Work.room g.W.Work.done (g.W.Work.right c.args.work.now) (g.W.Work.row_of c.args.work.now) c.args.lo c.args.seat.now.view c.args.state.now c.requires.state.0)

pub turn-requires-clause-numbers : goal.turn-requires-clause-numbers
turn-requires-clause-numbers g c = λ κs within x a b. c.requires.numbers x (omega arith) (omega arith)

pub loop-number-preserved : goal.loop-number-preserved
loop-number-preserved g c =
    let n = c.loop-number.number in
    let v = c.loop-number.seat.view in
    let right = g.W.Work.right c.args.work.now in
    let rows = g.W.Work.row_of c.args.work.now in
    let then = walks_then g.W.Work.room g.W.Work.done right rows c.args.lo n n (n + 1) c.args.lo (n + 1) (λ x. once_parts c.args.lo n (n + 1) x (omega arith) (omega arith)) (omega arith) c.args.seat.now.view v in
    elim c.if-not-is_passed.branch [
      | then-not-is_passed w ↦
          let walk = walks_looked g.W.Work.room g.W.Work.done right rows n (n + 1) n v c.is_passed.new.seat.view w.turn.new.seat.view c.loop-number.state w.turn.new.state (c.is_passed.ensures.free w.if-not-is_passed.true) w.turn.ensures.walk in
          rw (w.seat-is, w.state-is) (w.turn.ensures.seat, then w.turn.new.seat.view c.args.state.now c.loop-number.state w.turn.new.state c.loop-number.invariant.1 walk)
      | else-not-is_passed w ↦
          let passed = w.if-not-is_passed.false in
          let walk = walks_taken g.W.Work.room g.W.Work.done right rows n v c.is_passed.new.seat.view c.loop-number.state c.loop-number.invariant.1.did.fits (c.is_passed.ensures.claimed passed) (c.is_passed.ensures.alone passed) in
          rw (w.seat-is, w.state-is) (c.is_passed.ensures.seat, then c.is_passed.new.seat.view c.args.state.now c.loop-number.state c.loop-number.state c.loop-number.invariant.1 walk)
    ]
