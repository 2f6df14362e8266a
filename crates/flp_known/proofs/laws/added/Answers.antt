use Rattle.flp_known.proofs.RisingLemmas.{rising-with_nonces, is_among-with_nonces}
use Rattle.flp_known.proofs.laws.added.Goals as goal

pub returns-clause-rising : goal.returns-clause-rising
returns-clause-rising c = rising-with_nonces

pub returns-clause-members : goal.returns-clause-members
returns-clause-members c = is_among-with_nonces
