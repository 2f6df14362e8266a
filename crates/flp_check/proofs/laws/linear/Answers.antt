use Rattle.flp_check.proofs.VerdictLemmas.{body_linear}
use Rattle.flp_check.proofs.laws.linear.Goals as goal

pub returns : goal.returns
returns c = body_linear
