use Rattle.std.proofs.Common.{get_or}
use Rattle.flp_emit.proofs.Scaling.{scales_product, scale_of_step}
use Rattle.flp_emit.proofs.value.scaled.Goals as goal

pub returns : goal.returns
returns c =
    scales_product _ _ c.args.scale c.scale_of-factor.result _ (λ values. get_or values c.args.step 0) c.requires.scale c.scale_of-factor.ensures.fits
    c.in_ok-after.ensures.grows (scale_of_step _ c.scale_of-factor.result c.args.step c.requires.step c.scale_of-factor.ensures) c.in_ok-after.ensures.value
