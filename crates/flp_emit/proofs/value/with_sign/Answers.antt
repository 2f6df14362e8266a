use Rattle.std.proofs.Common.{◌*◌, ◌-◌}
use Rattle.flp_field.specs.Word.{modulus}
use Rattle.flp_emit.proofs.Values.{makes_of_two, makes_with_number, within_later}
use Rattle.flp_emit.proofs.value.with_sign.Goals as goal

pub returns-in_ok-step : goal.returns-in_ok-step
returns-in_ok-step c =
    rw c.if-minus.true
    (makes_with_number (λ a b. a * b) _ _ _ _ c.in_ok-minus_one.minus_one c.args.item (modulus - 1) c.requires c.in_ok-minus_one.ensures
    (makes_of_two (λ a b. a * b) _ _ _ c.in_ok-minus_one.minus_one c.args.item c.in_ok-minus_one.ensures.within
    (within_later c.in_ok-minus_one.ensures.grows c.requires) c.in_ok-step.ensures.grows c.in_ok-step.ensures.value))
