use Rattle.flp_verdict.proofs.ApartLemmas.{apart}
use Rattle.flp_verdict.proofs.laws.apart.Goals as goal

pub returns : goal.returns
returns c = apart
