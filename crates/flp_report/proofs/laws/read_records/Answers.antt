use Rattle.flp_report.proofs.LawLemmas.{whole_records-first, whole_records-all, whole_records-short}
use Rattle.flp_report.proofs.laws.read_records.Goals as goal

pub returns-clause-first : goal.returns-clause-first
returns-clause-first c = whole_records-first

pub returns-clause-all : goal.returns-clause-all
returns-clause-all c = whole_records-all

pub returns-clause-short : goal.returns-clause-short
returns-clause-short c = whole_records-short
