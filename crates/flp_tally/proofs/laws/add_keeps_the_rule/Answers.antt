use Rattle.flp_tally.proofs.StateLaws.{add_law}
use Rattle.flp_tally.proofs.laws.add_keeps_the_rule.Goals as goal

pub returns : goal.returns
returns c = add_law
