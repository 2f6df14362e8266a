use Rattle.std.proofs.Common.{ap}
use Rattle.flp_report.specs.declared.header.JobHeader.{JobHeader}
use Rattle.flp_report.proofs.HeadLemmas.{length-text}
use Rattle.flp_report.proofs.JobHeadLemmas.{job_header_of-more, jobs_of-more}
use Rattle.flp_report.proofs.laws.read_jobs.Goals as goal

pub returns-clause-size : goal.returns-clause-size
returns-clause-size c = λ front header head. length-text 28 front header.text head.size (ap (λ (h : JobHeader). h.text) head.same)

pub returns-clause-header : goal.returns-clause-header
returns-clause-header c = job_header_of-more

pub returns-clause-jobs : goal.returns-clause-jobs
returns-clause-jobs c = jobs_of-more
