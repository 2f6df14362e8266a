use Rattle.flp_load.proofs.LoadedLemmas.{bounded-loaded}
use Rattle.flp_load.proofs.laws.loaded_is_bounded.Goals as goal

pub returns : goal.returns
returns c = bounded-loaded
