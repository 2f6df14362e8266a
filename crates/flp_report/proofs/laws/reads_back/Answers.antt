use Rattle.flp_report.proofs.ReportLemmas.{ReadsAs-written}
use Rattle.flp_report.proofs.laws.reads_back.Goals as goal

pub returns : goal.returns
returns c = ReadsAs-written
