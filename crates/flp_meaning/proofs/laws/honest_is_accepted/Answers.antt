use Rattle.flp_meaning.proofs.Honest as honest
use Rattle.flp_meaning.proofs.laws.honest_is_accepted.Goals as goal

pub returns : goal.returns
returns c = honest.honest_proof_is_accepted
