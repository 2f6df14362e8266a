use Rattle.flp_tally.proofs.StateLaws.{note_law}
use Rattle.flp_tally.proofs.laws.note_keeps_the_rule.Goals as goal

pub returns : goal.returns
returns c = note_law
