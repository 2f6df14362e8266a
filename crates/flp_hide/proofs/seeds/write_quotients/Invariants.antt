use Rattle.std.proofs.Common.{ℕ, ◌≡◌, ◌<◌, get_or}
use Rattle.flp_field.specs.Word.{word_difference, word_product}
use Rattle.flp_hide.proofs.seeds.write_quotients.Given as goal

abbrev pub invariant-loop-k : goal.invariant-loop-k
invariant-loop-k l =
    (i : ℕ) → i < l.k → get_or l.out i 0 ≡ word_product (word_difference (get_or l.high i 0) (get_or l.low i 0)) l.inverse
