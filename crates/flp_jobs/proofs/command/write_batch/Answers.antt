use Rattle.std.proofs.Common.{map}
use Rattle.std.specs.List.{concat}
use Rattle.flp_io.proofs.UsesLemmas.{Uses-after}
use Rattle.flp_io.proofs.WriteLemmas.{TakesPrefix-more, TakesPrefix-after}
use Rattle.flp_report.specs.JobParts.{jobs_in}
use Rattle.flp_report.specs.Layout.{head_bytes}
use Rattle.flp_jobs.specs.Reading.{setting_of}
use Rattle.flp_jobs.specs.Record.{record_made}
use Rattle.flp_jobs.proofs.command.write_batch.Goals as goal

pub returns-in-Err-clause-front : goal.returns-in-Err-clause-front
returns-in-Err-clause-front g c =
    let file = c.args.file.now in
    TakesPrefix-more _ _ (head_bytes file.header) (concat (map (record_made (setting_of file)) (jobs_in file.jobs))) c.write_head.ensures.front

pub returns-clause-front : goal.returns-clause-front
returns-clause-front g c =
    let file = c.args.file.now in
    TakesPrefix-after _ _ _ (head_bytes file.header) (concat (map (record_made (setting_of file)) (jobs_in file.jobs))) c.in-Ok.ensures.whole c.write_records.ensures.front

pub returns-clause-uses : goal.returns-clause-uses
returns-clause-uses g c = Uses-after c.in-Ok.ensures.uses c.write_records.ensures.uses
