use Rattle.std.proofs.Common.{ℕ, ◌≡◌, ◌%◌, ◌^◌, ◌<◌, length, take}
use Rattle.flp_field.specs.Word.{modulus}
use Rattle.flp_field.proofs.Congruence.{Same}
use Rattle.flp_poly.proofs.Horner.{horner}
use Rattle.flp_ntt.proofs.folding.fold.Given as goal

-- where the power is 1, the place has the power of k, and what was added has the value of the first k coefficients
abbrev pub invariant-loop-k : goal.invariant-loop-k
invariant-loop-k l = record {
  below : l.place < length l.fn.out;
  turn : (t : ℕ) → t ^ length l.fn.out % modulus ≡ 1 → Same (t ^ l.place) (t ^ l.k);
  values : (t : ℕ) → t ^ length l.fn.out % modulus ≡ 1 → Same (horner l.out t) (horner (take l.k l.poly) t);
}
