use Rattle.flp_tally.proofs.StateLaws.{split_law}
use Rattle.flp_tally.proofs.laws.split_keeps_the_rule.Goals as goal

pub returns : goal.returns
returns c = split_law
