use Rattle.std.proofs.Common.{ℕ, ◌≡◌, ◌<◌, get_or}
use Rattle.flp_field.specs.Word.{word_sum}
use Rattle.flp_poly.proofs.arithmetic.add.Given as goal

abbrev pub invariant-loop-k : goal.invariant-loop-k
invariant-loop-k l = (j : ℕ) → j < l.k → get_or l.out j 0 ≡ word_sum (get_or l.a j 0) (get_or l.b j 0)
