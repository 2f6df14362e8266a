use Rattle.std.proofs.Common.{◌*◌}
use Rattle.flp_emit.proofs.Values.{makes_of_two}
use Rattle.flp_emit.proofs.value.multiplied.Goals as goal

pub returns-in_ok-step-in-Some : goal.returns-in_ok-step-in-Some
returns-in_ok-step-in-Some c =
    rw c.in-Some.is
    (makes_of_two (λ a b. a * b) _ _ _ c.in-Some.product c.args.factor (rw c.in-Some.is at c.requires.product) c.requires.factor
    c.in_ok-step-in-Some.ensures.grows c.in_ok-step-in-Some.ensures.value)
