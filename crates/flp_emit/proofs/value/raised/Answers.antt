use Rattle.std.proofs.Common.{◌^◌}
use Rattle.flp_emit.proofs.Values.{makes_of_one}
use Rattle.flp_emit.proofs.value.raised.Goals as goal

pub returns : goal.returns
returns c =
    makes_of_one (λ n. n ^ c.args.exponent) _ _ _ c.args.base c.requires c.in_ok-step.ensures.grows
    c.in_ok-step.ensures.value
