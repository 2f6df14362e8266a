use Rattle.flp_tally.proofs.StateLaws.{added_law}
use Rattle.flp_tally.proofs.laws.added_once.Goals as goal

pub returns : goal.returns
returns c = added_law
