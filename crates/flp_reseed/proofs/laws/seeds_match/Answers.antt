use Rattle.flp_reseed.proofs.LawLemmas.{seeds_match}
use Rattle.flp_reseed.proofs.laws.seeds_match.Goals as goal

pub returns : goal.returns
returns c = seeds_match c.loaded_is_bounded.ensures
