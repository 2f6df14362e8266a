use Rattle.flp_pool.proofs.RangeSums.{row_sums}
use Rattle.flp_pool.proofs.laws.row_sums.Goals as goal

pub returns : goal.returns
returns c = row_sums
