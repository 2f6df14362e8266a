use Rattle.flp_meaning.proofs.Decisions as decisions
use Rattle.flp_meaning.proofs.laws.decisions.Goals as goal

pub returns : goal.returns
returns c = decisions.decisions_mean
