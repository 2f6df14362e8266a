use Rattle.flp_tally.proofs.StateLaws.{bit_law}
use Rattle.flp_tally.proofs.laws.bit_is_claimed.Goals as goal

pub returns : goal.returns
returns c = bit_law
