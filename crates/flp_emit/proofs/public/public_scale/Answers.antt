use Rattle.flp_emit.proofs.Marking.{behind_factor}
use Rattle.flp_syntax.proofs.Rests.{rest_trees}
use Rattle.flp_emit.proofs.Parts.{then_grows}
use Rattle.flp_emit.proofs.Scaling.{scale_remains_more}
use Rattle.flp_emit.proofs.public.public_scale.Goals as goal

pub loop-factor-preserved : goal.loop-factor-preserved
loop-factor-preserved c =
    record {
      marks = behind_factor (rest_trees _ _ c.factor-item.result c.loop-factor-test.true c.factor-item.is) c.behind_first-marks.ensures c.loop-factor.invariant.marks;
      grows = then_grows c.loop-factor.invariant.grows c.in_ok-all.ensures.grows;
      fits = (rw (rest_trees _ _ c.factor-item.result c.loop-factor-test.true c.factor-item.is) at c.loop-factor.invariant.fits).1;
      left =
          scale_remains_more
          (rw (rest_trees _ _ c.factor-item.result c.loop-factor-test.true c.factor-item.is) at c.loop-factor.invariant.left)
          c.in_ok-all.ensures;
    }
