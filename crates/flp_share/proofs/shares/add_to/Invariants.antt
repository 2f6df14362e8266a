use Rattle.std.proofs.Common.{ℕ, ◌≡◌, ◌<◌, ◌≤◌, List, get_or}
use Rattle.flp_field.specs.Word.{word_sum}
use Rattle.flp_share.proofs.shares.add_to.Given as goal

pub record Added (before words sum : List ℕ) (k : ℕ) : Type 0 where
  pub done : (j : ℕ) → j < k → get_or sum j 0 ≡ word_sum (get_or before j 0) (get_or words j 0)
  pub rest : (j : ℕ) → k ≤ j → get_or sum j 0 ≡ get_or before j 0

abbrev pub invariant-loop-k : goal.invariant-loop-k
invariant-loop-k l = Added l.fn.sum l.words l.sum l.k
