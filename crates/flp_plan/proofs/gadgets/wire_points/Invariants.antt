use Rattle.std.proofs.Common.{◌≡◌, ◌*◌, ◌≤◌}
use Rattle.std.specs.List.{sum_by, range_with_len}
use Rattle.flp_syntax.specs.View.{program_of}
use Rattle.flp_meaning.specs.Gadgets.{arity_of, size_of}
use Rattle.flp_plan.proofs.gadgets.wire_points.Given as goal

-- the points of the wires of the gadgets so far
abbrev pub invariant-loop-gadget : goal.invariant-loop-gadget
invariant-loop-gadget l = record {
  points :
      l.points
      ≡ sum_by (λ gadget. arity_of (program_of l.checked.body) gadget * size_of (program_of l.checked.body) gadget) (range_with_len 0 l.gadget);
  few : l.points ≤ 4194304 * l.gadget;
}
