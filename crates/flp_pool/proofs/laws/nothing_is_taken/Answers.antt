use Rattle.flp_pool.proofs.Taking.{empty}
use Rattle.flp_pool.proofs.laws.nothing_is_taken.Goals as goal

pub returns : goal.returns
returns c = empty
