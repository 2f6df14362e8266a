use Rattle.std.proofs.Common.{ℕ, ◌≡◌, ◌<◌, ◌≤◌, get_or}
use Rattle.flp_field.specs.Word.{word_product}
use Rattle.flp_ntt.proofs.transform.scale.Given as goal

abbrev pub invariant-loop-x : goal.invariant-loop-x
invariant-loop-x l = record {
  done : (j : ℕ) → j < l.x-index → get_or l.values j 0 ≡ word_product l.by (get_or l.fn.values j 0);
  rest : (j : ℕ) → l.x-index ≤ j → get_or l.values j 0 ≡ get_or l.fn.values j 0;
}
