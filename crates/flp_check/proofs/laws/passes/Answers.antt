use Rattle.flp_check.proofs.VerdictLemmas.{passes}
use Rattle.flp_check.proofs.laws.passes.Goals as goal

pub returns : goal.returns
returns c = passes
