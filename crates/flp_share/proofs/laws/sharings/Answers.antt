use Rattle.flp_share.proofs.Sharings.{shares_sum_up, each_sharing_is_split}
use Rattle.flp_share.proofs.laws.sharings.Goals as goal

pub returns-clause-sum : goal.returns-clause-sum
returns-clause-sum c = shares_sum_up

pub returns-clause-each : goal.returns-clause-each
returns-clause-each c = each_sharing_is_split
