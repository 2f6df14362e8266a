use Rattle.std.proofs.Common.{arith, ◌∙◌}
use Rattle.flp_field.proofs.Congruence.{mod_word}
use Rattle.flp_field.proofs.Powers.{power_odd, power_even}
use Rattle.flp_field.proofs.word.Fe.pow.Goals as goal
use Rattle.flp_field.proofs.word.Fe.pow.Goals.{then-left-eq1, else-left-eq1}

-- each turn keeps the power that is built times the power of the square that is left
pub loop-left-preserved : goal.loop-left-preserved
loop-left-preserved c =
    elim c.if-left-eq1.branch [
      | then-left-eq1 w ↦
          rw (c.mul-square.ensures, w.power-is, w.mul-power.ensures) (
            mod_word _,
            power_odd c.loop-left.power c.loop-left.square c.loop-left.left (omega arith)
                ∙ c.loop-left.invariant.1,
          )
      | else-left-eq1 w ↦
          rw (c.mul-square.ensures, w.power-is) (
            c.loop-left.invariant.0,
            power_even c.loop-left.power c.loop-left.square c.loop-left.left (omega arith)
                ∙ c.loop-left.invariant.1,
          )
    ]
