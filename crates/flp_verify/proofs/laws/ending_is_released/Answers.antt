use Rattle.flp_verify.proofs.EndingLemmas.{ending_is_released}
use Rattle.flp_verify.proofs.laws.ending_is_released.Goals as goal

pub returns : goal.returns
returns c = ending_is_released c.row_sums.ensures
