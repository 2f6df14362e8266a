use Rattle.std.proofs.Common.{ℕ, ◌≡◌, ◌%◌, ◌≤◌, length, drop}
use Rattle.flp_field.specs.Word.{modulus}
use Rattle.flp_field.specs.Domain.{powers_of}
use Rattle.flp_poly.proofs.Horner.{horner}
use Rattle.flp_poly.proofs.powers.eval_by.Given as goal

abbrev pub invariant-loop-left : goal.invariant-loop-left
invariant-loop-left l = record {
  inside : l.left ≤ length l.poly;
  value : (t : ℕ) → l.powers ≡ powers_of t (length l.powers) → l.value ≡ horner (drop l.left l.poly) t % modulus;
}

abbrev pub decreases-loop-left : goal.decreases-loop-left
decreases-loop-left l = l.left
