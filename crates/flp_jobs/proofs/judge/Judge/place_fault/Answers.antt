use Rattle.std.proofs.Common.{Some, sym, ap, ◌∙◌}
use Rattle.flp_report.specs.JobParts.{job_of}
use Rattle.flp_jobs.specs.Reading.{setting_of}
use Rattle.flp_jobs.proofs.MeasLemmas.{job-counted}
use Rattle.flp_jobs.proofs.judge.Judge.place_fault.Goals as goal

pub unreachable-requires : goal.unreachable-requires
unreachable-requires c =
    job-counted (setting_of c.args.file.now) (job_of c.args.job.now) c.in-Err-Count.field-0-0 c.requires.whole.setting
    (sym c.in-Err-Count.ensures.fault ∙ ap Some c.in-Err-Count.field-0-is)
