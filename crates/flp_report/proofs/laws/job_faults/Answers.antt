use Rattle.flp_report.proofs.PartFaultLemmas.{jobs_fault-short, jobs_fault-trailing, jobs_fault-words}
use Rattle.flp_report.proofs.laws.job_faults.Goals as goal

pub returns-clause-short : goal.returns-clause-short
returns-clause-short c = jobs_fault-short

pub returns-clause-trailing : goal.returns-clause-trailing
returns-clause-trailing c = jobs_fault-trailing

pub returns-clause-words : goal.returns-clause-words
returns-clause-words c = jobs_fault-words
