use Rattle.std.proofs.Common.{arith}
use Rattle.flp_query.proofs.WeightLemmas.{weights-at}
use Rattle.flp_query.proofs.weights.weights_for.Goals as goal

pub returns-clause-weights : goal.returns-clause-weights
returns-clause-weights c query all =
    weights-at c.args.plan.now.circuit query c.args.all.now c.args.gadget c.weights_start-start.result c.domain_size.result _
    c.requires.gadget all c.weights_start-start.ensures.start c.domain_size.ensures.points (omega arith)
