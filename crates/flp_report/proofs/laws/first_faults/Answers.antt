use Rattle.flp_report.proofs.LawLemmas.{fault_of-head, fault_of-shape, fault_of-claims, fault_of-records}
use Rattle.flp_report.proofs.laws.first_faults.Goals as goal

pub returns-clause-head : goal.returns-clause-head
returns-clause-head c = fault_of-head

pub returns-clause-shape : goal.returns-clause-shape
returns-clause-shape c = fault_of-shape

pub returns-clause-claims : goal.returns-clause-claims
returns-clause-claims c = fault_of-claims

pub returns-clause-records : goal.returns-clause-records
returns-clause-records c = fault_of-records
