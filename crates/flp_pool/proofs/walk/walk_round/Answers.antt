use Rattle.std.proofs.Common.{arith}
use Rattle.flp_pool.proofs.Once.{once_parts, once_round}
use Rattle.flp_pool.proofs.Walking.{walks_then}
use Rattle.flp_pool.proofs.walk.walk_round.Goals as goal

pub walk_part-requires-clause-numbers : goal.walk_part-requires-clause-numbers
walk_part-requires-clause-numbers g c = λ κs within x a b. c.requires.numbers x (omega arith) (omega arith)

pub walk_part-requires-2-clause-numbers : goal.walk_part-requires-2-clause-numbers
walk_part-requires-2-clause-numbers g c = λ κs within x a b. c.requires.numbers x (omega arith) (omega arith)

pub walk_part-requires-3-clause-numbers : goal.walk_part-requires-3-clause-numbers
walk_part-requires-3-clause-numbers g c = λ κs within x a b. c.requires.numbers x (omega arith) (omega arith)

pub returns-clause-walk : goal.returns-clause-walk
returns-clause-walk g c = let lo = c.args.span.lo in let start = c.part_of-start.result.0 in let end = c.part_of-start.result.1 in let hi = c.args.span.hi in
    let then = walks_then g.W.Work.room g.W.Work.done (g.W.Work.right c.args.work.now) (g.W.Work.row_of c.args.work.now) in let order = c.part_of-start.ensures.order in
    let up = then start end end hi start hi (λ x. once_parts start end hi x order.1 order.2) (omega arith)
    c.args.seat.now.view c.walk_part.new.seat.view c.walk_part-2.new.seat.view c.args.state.now c.walk_part.new.state c.walk_part-2.new.state c.walk_part.ensures.walk c.walk_part-2.ensures.walk in
    then start hi lo start lo hi (λ x. once_round lo start hi x order.0 (omega arith)) (omega arith)
    c.args.seat.now.view c.walk_part-2.new.seat.view c.walk_part-3.new.seat.view c.args.state.now c.walk_part-2.new.state c.walk_part-3.new.state up c.walk_part-3.ensures.walk
