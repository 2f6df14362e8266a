use Rattle.flp_pool.proofs.RangeSums.{sums_of_range}
use Rattle.flp_pool.proofs.laws.run_sums.Goals as goal

pub returns : goal.returns
returns c = sums_of_range
