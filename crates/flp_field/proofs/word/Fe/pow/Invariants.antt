use Rattle.std.proofs.Common.{◌*◌, ◌^◌, ◌<◌}
use Rattle.flp_field.specs.Word.{modulus}
use Rattle.flp_field.proofs.Congruence.{Same}
use Rattle.flp_field.proofs.word.Fe.pow.Given as goal

abbrev pub invariant-loop-left : goal.invariant-loop-left
invariant-loop-left l = (l.power < modulus) × Same (l.power * l.square ^ l.left) (l.fn.self ^ l.fn.exponent)

abbrev pub decreases-loop-left : goal.decreases-loop-left
decreases-loop-left l = l.left
