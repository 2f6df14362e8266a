use Rattle.std.proofs.Common.{◌≡◌, ◌+◌, ◌≤◌, ℕ, List, take}
use Rattle.flp_report.specs.Segment.{records_in}
use Rattle.flp_batch.specs.Walk.{JudgesSome}
use Rattle.flp_batch.proofs.records.judge_segment.Given as goal

abbrev pub invariant-loop-index : goal.invariant-loop-index
invariant-loop-index g l = record {
  judged : (earlier : List (List ℕ)) → g.J.Judge.follows l.initial.judge earlier → JudgesSome (g.J.Judge.wording l.initial.judge).line (g.J.Judge.follows l.judge) earlier (take l.index (records_in l.room)) (g.K.Sink.taken l.initial.output) l.initial.block (g.K.Sink.taken l.output) l.block;
  shape : g.J.Judge.record_shape l.judge ≡ g.J.Judge.record_shape l.initial.judge;
  wording : g.J.Judge.wording l.judge ≡ g.J.Judge.wording l.initial.judge;
  counted : g.J.Judge.count l.judge ≤ g.J.Judge.count l.initial.judge + l.index;
  writable : g.K.Sink.ready l.output;
  later : g.K.Sink.faults l.initial.output ≤ g.K.Sink.faults l.output;
}
