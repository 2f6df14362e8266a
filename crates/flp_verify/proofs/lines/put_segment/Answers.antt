use Rattle.flp_report.specs.Segment.{records_in}
use Rattle.flp_round.specs.Crew.{verdicts_of}
use Rattle.flp_verdict.specs.Text.{judged_lines}
use Rattle.flp_io.proofs.UsesLemmas.{Uses-after}
use Rattle.flp_verify.specs.Told.{beside}
use Rattle.flp_verify.proofs.LineLemmas.{whole-written, front-written}
use Rattle.flp_verify.proofs.lines.put_segment.Goals as goal

pub returns-clause-whole : goal.returns-clause-whole
returns-clause-whole g c = whole-written c.flush.result (g.K.Sink.taken c.args.output.now) (g.K.Sink.taken c.put_verdict_lines.new.sink) (g.K.Sink.taken c.flush.new.sink) c.args.block.now c.put_verdict_lines.new.block
    (judged_lines (beside (records_in c.args.segment.now) (verdicts_of c.args.crew.now))) c.in_ok-put_verdict_lines.ensures.passes c.flush.ensures.sink.whole

pub returns-clause-front : goal.returns-clause-front
returns-clause-front g c = front-written (g.K.Sink.taken c.args.output.now) (g.K.Sink.taken c.put_verdict_lines.new.sink) (g.K.Sink.taken c.flush.new.sink) c.args.block.now c.put_verdict_lines.new.block
    (judged_lines (beside (records_in c.args.segment.now) (verdicts_of c.args.crew.now))) c.in_ok-put_verdict_lines.ensures.passes c.flush.ensures.sink.front

pub returns-clause-uses : goal.returns-clause-uses
returns-clause-uses g c = Uses-after c.in_ok-put_verdict_lines.ensures.uses c.flush.ensures.sink.uses
