use Rattle.std.proofs.Common.{ℕ, ◌<◌, length, get_or, arith}
use Rattle.std.proofs.lemmas.List.FromFn.{fill_by_all}
use Rattle.flp_field.specs.Word.{word_difference}
use Rattle.flp_share.proofs.shares.subtract_from.Goals as goal

pub returns-clause-difference : goal.returns-clause-difference
returns-clause-difference c =
    fill_by_all (λ (k : ℕ). word_difference (get_or c.args.whole.now k 0) (get_or c.args.words.now k 0)) c.loop-k.words
    (length c.args.whole.now) 0 (omega arith)
    (λ (k : ℕ) (below : k < length c.args.whole.now). c.loop-k.invariant.done k (omega arith))
