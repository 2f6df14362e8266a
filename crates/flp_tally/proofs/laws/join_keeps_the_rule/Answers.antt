use Rattle.flp_tally.proofs.StateLaws.{join_law}
use Rattle.flp_tally.proofs.laws.join_keeps_the_rule.Goals as goal

pub returns : goal.returns
returns c = join_law
