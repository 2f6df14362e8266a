use Rattle.std.proofs.Common.{take, Ok}
use Rattle.flp_io.specs.declared.failed.Failed.{Failed}
use Rattle.flp_report.specs.Segment.{records_in}
use Rattle.flp_round.specs.Crew.{verdicts_of}
use Rattle.flp_verdict.specs.Text.{judged_lines}
use Rattle.flp_known.specs.Puts.{Puts}
use Rattle.flp_verify.specs.Told.{beside}
use Rattle.flp_verify.proofs.lines.put_verdict_lines.Given as goal

abbrev pub invariant-loop-index : goal.invariant-loop-index
invariant-loop-index g l = Puts {T = Unit {0}} {E = Failed} g.K.Sink.taken g.K.Sink.faults g.K.Sink.ready l.initial.sink l.sink l.initial.block l.block (judged_lines (take l.index (beside (records_in l.segment) (verdicts_of l.crew)))) (Ok tt)
