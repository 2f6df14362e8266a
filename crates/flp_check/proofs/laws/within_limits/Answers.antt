use Rattle.flp_check.proofs.VerdictLemmas.{body_within}
use Rattle.flp_check.proofs.laws.within_limits.Goals as goal

pub returns : goal.returns
returns c = body_within
