use Rattle.flp_tally.proofs.StateLaws.{seen_law}
use Rattle.flp_tally.proofs.laws.seen_is_claimed.Goals as goal

pub returns : goal.returns
returns c = seen_law
