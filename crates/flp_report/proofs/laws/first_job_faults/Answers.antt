use Rattle.flp_report.proofs.JobHeadLemmas.{job_fault-head, job_fault-shape, job_fault-jobs}
use Rattle.flp_report.proofs.laws.first_job_faults.Goals as goal

pub returns-clause-head : goal.returns-clause-head
returns-clause-head c = job_fault-head

pub returns-clause-shape : goal.returns-clause-shape
returns-clause-shape c = job_fault-shape

pub returns-clause-jobs : goal.returns-clause-jobs
returns-clause-jobs c = job_fault-jobs
