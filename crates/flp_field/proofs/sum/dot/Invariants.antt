use Rattle.std.proofs.Common.{ℕ, ◌≡◌, ◌*◌, ◌≤◌, get_or}
use Rattle.flp_field.proofs.SumLemmas.{sum_to}
use Rattle.flp_field.proofs.sum.dot.Given as goal

abbrev pub invariant-loop-k : goal.invariant-loop-k
invariant-loop-k l = record {
  sum : l.sum ≡ sum_to (λ (j : ℕ). get_or l.a j 0 * get_or l.b j 0) l.k;
  below : l.sum ≤ 340282366920938463463374607431768211456 * l.k;
}
