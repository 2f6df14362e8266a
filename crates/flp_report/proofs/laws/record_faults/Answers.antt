use Rattle.flp_report.proofs.LawLemmas.{records_fault-segment, records_fault-trailing, records_fault-none}
use Rattle.flp_report.proofs.laws.record_faults.Goals as goal

pub returns-clause-segment : goal.returns-clause-segment
returns-clause-segment c = records_fault-segment

pub returns-clause-trailing : goal.returns-clause-trailing
returns-clause-trailing c = records_fault-trailing

pub returns-clause-none : goal.returns-clause-none
returns-clause-none c = records_fault-none
