use Rattle.std.proofs.Common.{◌∙◌, arith}
use Rattle.flp_gadget.proofs.GroupLemmas.{sum_over_groups-step, sum_over_groups-all}
use Rattle.flp_gadget.proofs.parallel_sum.sum_over.Goals as goal

pub loop-i-preserved : goal.loop-i-preserved
loop-i-preserved g c =
    c.add-sum.ensures
    ∙ sum_over_groups-step (g.G.Gadget.value c.args.sub.now) (g.G.Gadget.arity c.args.sub.now) c.loop-i.i
    c.args.inputs.now c.arity-arity.result c.loop-i.sum c.eval.result c.arity-arity.ensures.number c.loop-i.invariant
    c.eval.ensures

pub returns : goal.returns
returns g c =
    sum_over_groups-all (g.G.Gadget.value c.args.sub.now) (g.G.Gadget.arity c.args.sub.now) c.loop-i.i c.args.count
    c.args.inputs.now c.loop-i.sum c.loop-i.invariant (omega arith)
