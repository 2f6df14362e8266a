use Rattle.std.proofs.Common.{◌≡◌, ◌≤◌, ◌%◌, length, drop}
use Rattle.flp_field.specs.Word.{modulus}
use Rattle.flp_poly.proofs.Horner.{horner}
use Rattle.flp_poly.proofs.evaluation.eval.Given as goal

abbrev pub invariant-loop-left : goal.invariant-loop-left
invariant-loop-left l = record {
  inside : l.left ≤ length l.poly;
  value : l.value ≡ horner (drop l.left l.poly) l.at % modulus;
}

abbrev pub decreases-loop-left : goal.decreases-loop-left
decreases-loop-left l = l.left
