use Rattle.flp_tally.proofs.StateLaws.{wraps_law}
use Rattle.flp_tally.proofs.laws.cells_never_wrap.Goals as goal

pub returns : goal.returns
returns c = wraps_law
