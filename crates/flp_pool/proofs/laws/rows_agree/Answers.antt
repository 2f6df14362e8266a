use Rattle.flp_pool.proofs.Taking.{agree}
use Rattle.flp_pool.proofs.laws.rows_agree.Goals as goal

pub returns : goal.returns
returns c = agree
