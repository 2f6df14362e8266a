use Rattle.flp_generator.proofs.LawLemmas.{trials_are_batches}
use Rattle.flp_generator.proofs.laws.trials_are_batches.Goals as goal

pub returns : goal.returns
returns c = trials_are_batches c.loaded_is_bounded.ensures
