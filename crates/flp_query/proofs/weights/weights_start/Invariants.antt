use Rattle.std.proofs.Common.{◌≡◌, ◌*◌, ◌≤◌}
use Rattle.flp_meaning.specs.Gadgets.{size_of}
use Rattle.flp_meaning.specs.Lengths.{start_of}
use Rattle.flp_query.proofs.weights.weights_start.Given as goal

abbrev pub invariant-loop-earlier : goal.invariant-loop-earlier
invariant-loop-earlier l = record {
  start : l.start ≡ start_of (size_of l.plan.circuit) l.earlier;
  low : l.start ≤ 4096 * l.earlier;
}
