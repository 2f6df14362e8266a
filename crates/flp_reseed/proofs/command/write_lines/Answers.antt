use Rattle.std.proofs.Common.{List, ℕ, ◌++◌, subst}
use Rattle.flp_io.specs.Writes.{TakesPrefix}
use Rattle.flp_io.proofs.UsesLemmas.{Uses-after}
use Rattle.flp_known.proofs.PutsLemmas.{front-flushed, whole-flushed}
use Rattle.flp_report.specs.JobParts.{jobs_in}
use Rattle.flp_jobs.specs.Reading.{setting_of}
use Rattle.flp_reseed.specs.Text.{hidden_lines}
use Rattle.flp_reseed.proofs.command.write_lines.Goals as goal

pub returns-in_err-put_lines-clause-front : goal.returns-in_err-put_lines-clause-front
returns-in_err-put_lines-clause-front g c =
    let text = hidden_lines (setting_of c.args.file.now) (jobs_in c.args.file.now.jobs) in
    subst (λ (held : List ℕ). TakesPrefix (g.K.Sink.taken c.args.output.now) (g.K.Sink.taken c.put_lines.new.sink) (held ++ text)) c.requires.empty c.in_err-put_lines.ensures.front

pub returns-clause-whole : goal.returns-clause-whole
returns-clause-whole g c =
    let text = hidden_lines (setting_of c.args.file.now) (jobs_in c.args.file.now.jobs) in
    whole-flushed c.flush.result (g.K.Sink.taken c.args.output.now) (g.K.Sink.taken c.put_lines.new.sink) (g.K.Sink.taken c.flush.new.sink) c.args.block.now c.put_lines.new.block
    text c.requires.empty c.in_ok-put_lines.ensures.passes c.flush.ensures.sink.whole

pub returns-clause-front : goal.returns-clause-front
returns-clause-front g c =
    let text = hidden_lines (setting_of c.args.file.now) (jobs_in c.args.file.now.jobs) in
    front-flushed (g.K.Sink.taken c.args.output.now) (g.K.Sink.taken c.put_lines.new.sink) (g.K.Sink.taken c.flush.new.sink) c.args.block.now c.put_lines.new.block
    text c.requires.empty c.in_ok-put_lines.ensures.passes c.flush.ensures.sink.front

pub returns-clause-uses : goal.returns-clause-uses
returns-clause-uses g c = Uses-after c.in_ok-put_lines.ensures.uses c.flush.ensures.sink.uses
