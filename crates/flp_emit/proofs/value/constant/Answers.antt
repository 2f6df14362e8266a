use Rattle.flp_emit.proofs.Values.{makes_number}
use Rattle.flp_emit.proofs.value.constant.Goals as goal

pub returns : goal.returns
returns c = makes_number _ _ _ _ c.in_ok-step.ensures.grows c.in_ok-step.ensures.value
