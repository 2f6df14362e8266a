use Rattle.flp_tally.proofs.StateLaws.{once_law}
use Rattle.flp_tally.proofs.laws.claimed_once.Goals as goal

pub returns : goal.returns
returns c = once_law
