use Rattle.std.proofs.Common.{◌≡◌}
use Rattle.flp_gadget.specs.Formulas.{sum_over_groups}
use Rattle.flp_gadget.proofs.parallel_sum.sum_over.Given as goal

abbrev pub invariant-loop-i : goal.invariant-loop-i
invariant-loop-i g l = l.sum ≡ sum_over_groups (g.G.Gadget.value l.sub) (g.G.Gadget.arity l.sub) l.i l.inputs
