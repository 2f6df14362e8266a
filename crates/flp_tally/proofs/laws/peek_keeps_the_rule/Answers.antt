use Rattle.flp_tally.proofs.StateLaws.{peek_law}
use Rattle.flp_tally.proofs.laws.peek_keeps_the_rule.Goals as goal

pub returns : goal.returns
returns c = peek_law
