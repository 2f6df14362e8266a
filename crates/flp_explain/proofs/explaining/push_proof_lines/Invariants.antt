use Rattle.std.proofs.Common.{◌≡◌, ◌++◌}
use Rattle.std.specs.List.{flat_map, range_with_len}
use Rattle.flp_report.specs.Record.{record_of}
use Rattle.flp_worker.specs.Words.{shape_held}
use Rattle.flp_explain.specs.Text.{proof_line}
use Rattle.flp_explain.proofs.explaining.push_proof_lines.Given as goal

abbrev pub invariant-loop-proof : goal.invariant-loop-proof
invariant-loop-proof l = record {
  lines :
      l.line.items ≡ l.initial.line.items ++ flat_map (proof_line l.plan.circuit (shape_held l.words) (record_of l.given)) (range_with_len 0 l.proof);
  again : l.room ≡ l.fn.room;
}
