use Rattle.flp_pool.proofs.RangeSums.{follow}
use Rattle.flp_pool.proofs.laws.ranges_follow.Goals as goal

pub returns : goal.returns
returns c = follow
