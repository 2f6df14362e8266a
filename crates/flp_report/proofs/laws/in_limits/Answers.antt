use Rattle.flp_report.proofs.LimitLemmas.{few-parts}
use Rattle.flp_report.proofs.laws.in_limits.Goals as goal

pub returns : goal.returns
returns c = few-parts
