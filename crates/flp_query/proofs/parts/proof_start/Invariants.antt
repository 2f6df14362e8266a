use Rattle.std.proofs.Common.{◌≡◌, ◌*◌, ◌≤◌}
use Rattle.flp_meaning.specs.Lengths.{proof_part, start_of}
use Rattle.flp_query.proofs.parts.proof_start.Given as goal

abbrev pub invariant-loop-earlier : goal.invariant-loop-earlier
invariant-loop-earlier l = record {
  start : l.start ≡ start_of (proof_part l.plan.circuit) l.earlier;
  low : l.start ≤ 33785 * l.earlier;
}
