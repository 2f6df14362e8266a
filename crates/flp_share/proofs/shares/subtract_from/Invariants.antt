use Rattle.std.proofs.Common.{ℕ, ◌≡◌, ◌<◌, ◌≤◌, List, get_or}
use Rattle.flp_field.specs.Word.{word_sum, word_difference}
use Rattle.flp_share.proofs.shares.subtract_from.Given as goal

pub record Subtracted (whole before words : List ℕ) (k : ℕ) : Type 0 where
  pub done : (j : ℕ) → j < k → get_or words j 0 ≡ word_difference (get_or whole j 0) (get_or before j 0)
  pub undone : (j : ℕ) → j < k → word_sum (get_or words j 0) (get_or before j 0) ≡ get_or whole j 0
  pub rest : (j : ℕ) → k ≤ j → get_or words j 0 ≡ get_or before j 0

abbrev pub invariant-loop-k : goal.invariant-loop-k
invariant-loop-k l = Subtracted l.whole l.fn.words l.words l.k
