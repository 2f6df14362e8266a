use Rattle.std.proofs.Common.{◌-◌, refl}
use Rattle.flp_field.specs.Word.{modulus}
use Rattle.flp_forms.specs.declared.term.Scale.TheVariants.{MinusOne}
use Rattle.flp_emit.proofs.Scaling.{scales_product}
use Rattle.flp_emit.proofs.value.scale_with_sign.Goals as goal

pub returns-in_ok-after : goal.returns-in_ok-after
returns-in_ok-after c =
    rw c.if-minus.true
    (scales_product _ _ c.args.scale MinusOne _ (λ values. modulus - 1) c.requires (tt {0}) c.in_ok-after.ensures.grows (λ later g joint. refl)
    c.in_ok-after.ensures.value)
