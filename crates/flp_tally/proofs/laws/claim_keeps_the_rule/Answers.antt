use Rattle.flp_tally.proofs.StateLaws.{claim_law}
use Rattle.flp_tally.proofs.laws.claim_keeps_the_rule.Goals as goal

pub returns : goal.returns
returns c = claim_law
