use Rattle.std.proofs.Common.{ℕ, suc, ◌≡◌, ◌+◌, ◌*◌, ◌<◌, ◌≤◌, length, get_or}
use Rattle.flp_field.specs.Word.{modulus}
use Rattle.flp_field.proofs.Congruence.{Same}
use Rattle.flp_poly.proofs.division.divide_root.Given as goal

abbrev pub invariant-loop-left : goal.invariant-loop-left
invariant-loop-left l = record {
  inside : l.left ≤ length l.out;
  size : length l.out + 1 ≡ length l.poly;
  below : l.rest < modulus;
  lowest : Same l.rest (get_or l.poly l.left 0 + l.root * get_or l.out l.left 0);
  others : (k : ℕ) → l.left ≤ k → k < length l.out
      → Same (get_or l.out k 0) (get_or l.poly (suc k) 0 + l.root * get_or l.out (suc k) 0);
}

abbrev pub decreases-loop-left : goal.decreases-loop-left
decreases-loop-left l = l.left
