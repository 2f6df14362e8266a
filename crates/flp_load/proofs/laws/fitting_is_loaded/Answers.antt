use Rattle.flp_load.proofs.AnswerLemmas.{fitting_is_loaded}
use Rattle.flp_load.proofs.laws.fitting_is_loaded.Goals as goal

pub returns : goal.returns
returns c = fitting_is_loaded
