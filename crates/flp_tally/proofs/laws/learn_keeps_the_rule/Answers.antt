use Rattle.flp_tally.proofs.StateLaws.{learn_law}
use Rattle.flp_tally.proofs.laws.learn_keeps_the_rule.Goals as goal

pub returns : goal.returns
returns c = learn_law
