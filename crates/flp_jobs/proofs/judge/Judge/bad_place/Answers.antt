use Rattle.std.proofs.Common.{sym, ◌∙◌, arith}
use Rattle.flp_report.specs.JobParts.{jobs_in, job_of}
use Rattle.flp_jobs.specs.Reading.{setting_of}
use Rattle.flp_jobs.proofs.PlaceLemmas.{bad-more, bad-here, bad-end}
use Rattle.flp_jobs.proofs.FileLemmas.{count-jobs}
use Rattle.flp_jobs.proofs.judge.Judge.bad_place.Goals as goal

pub returns-in-Some : goal.returns-in-Some
returns-in-Some c =
    let file = c.args.file.now in
    sym (c.loop-number.invariant.goes_on
    ∙ bad-here c.args.joints (setting_of file) (jobs_in file.jobs) c.loop-number.number (job_of c.judged_under-under.result) (job_of c.job-job.result) c.in-Some.fault
    c.job-job.ensures.numbered (c.judged_under-under.ensures.under _ c.job-job.ensures.numbered) (sym c.in-Some.ensures.fault))

pub loop-number-preserved : goal.loop-number-preserved
loop-number-preserved c =
    let file = c.args.file.now in
    record {
      made = c.in-None.ensures.again;
      goes_on = c.loop-number.invariant.goes_on
          ∙ bad-more c.args.joints (setting_of file) (jobs_in file.jobs) c.loop-number.number (job_of c.judged_under-under.result) (job_of c.job-job.result)
          c.job-job.ensures.numbered (c.judged_under-under.ensures.under _ c.job-job.ensures.numbered) (sym c.in-None.ensures.fault);
    }

pub returns : goal.returns
returns c =
    let file = c.args.file.now in
    let count = count-jobs file c.requires.whole in
    sym (c.loop-number.invariant.goes_on ∙ bad-end c.args.joints (setting_of file) (jobs_in file.jobs) c.loop-number.number (omega (arith, count)))
