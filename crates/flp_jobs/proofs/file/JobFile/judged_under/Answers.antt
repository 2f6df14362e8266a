use Rattle.std.proofs.Common.{sym, ap, ◌∙◌}
use Rattle.flp_report.specs.JobParts.{jobs_in}
use Rattle.flp_jobs.specs.declared.rules.Joints.{Joints}
use Rattle.flp_jobs.specs.Place.{judged_under, first_job}
use Rattle.flp_jobs.proofs.FileLemmas.{same-numbered, first-numbered}
use Rattle.flp_jobs.proofs.file.JobFile.judged_under.Goals as goal

pub returns-in-Own-clause-under : goal.returns-in-Own-clause-under
returns-in-Own-clause-under c = λ job at.
    let jobs = jobs_in c.args.self.now.jobs in
    same-numbered jobs c.args.number _ job c.job.ensures.numbered at ∙ sym (ap (λ (j : Joints). judged_under j (first_job jobs) job) c.in-Own.is)

pub returns-in-First-clause-under : goal.returns-in-First-clause-under
returns-in-First-clause-under c = λ job at.
    let jobs = jobs_in c.args.self.now.jobs in
    first-numbered jobs _ c.job-in-First.ensures.numbered ∙ sym (ap (λ (j : Joints). judged_under j (first_job jobs) job) c.in-First.is)
