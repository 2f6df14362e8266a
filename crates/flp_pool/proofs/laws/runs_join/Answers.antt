use Rattle.flp_pool.proofs.Taking.{join}
use Rattle.flp_pool.proofs.laws.runs_join.Goals as goal

pub returns : goal.returns
returns c = join
