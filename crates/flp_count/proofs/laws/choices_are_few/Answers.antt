use Rattle.flp_count.proofs.ChoiceLemmas.{choices_are_few}
use Rattle.flp_count.specs.Laws.{Takes}
use Rattle.flp_count.proofs.laws.choices_are_few.Goals as goal

pub returns : goal.returns
returns c = choices_are_few Takes
