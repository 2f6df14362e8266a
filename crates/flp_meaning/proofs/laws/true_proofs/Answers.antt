use Rattle.flp_meaning.proofs.Honest as honest
use Rattle.flp_meaning.proofs.laws.true_proofs.Goals as goal

pub returns : goal.returns
returns c = honest.true_proofs_are_direct
