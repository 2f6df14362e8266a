use Rattle.flp_generator.proofs.SequenceLemmas.{stays_out}
use Rattle.flp_generator.proofs.laws.words_stay_out.Goals as goal

pub returns : goal.returns
returns c = stays_out
