use Rattle.std.proofs.Common.{◌≡◌, ◌*◌, ◌≤◌}
use Rattle.flp_meaning.specs.Gadgets.{size_of}
use Rattle.flp_meaning.specs.Lengths.{start_of}
use Rattle.flp_query.proofs.weights.all_points.Given as goal

abbrev pub invariant-loop-gadget : goal.invariant-loop-gadget
invariant-loop-gadget l = record {
  points : l.points ≡ start_of (size_of l.plan.circuit) l.gadget;
  low : l.points ≤ 4096 * l.gadget;
}
