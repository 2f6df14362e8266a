use Rattle.std.proofs.Common.{◌≡◌, ◌%◌, sum, take}
use Rattle.flp_field.specs.Word.{modulus}
use Rattle.flp_joint.proofs.joint.total.Given as goal

abbrev pub invariant-loop-word : goal.invariant-loop-word
invariant-loop-word l = l.total ≡ sum (take l.word-index l.x) % modulus
