use Rattle.std.proofs.Common.{ℕ, ◌<◌, length, get_or, arith}
use Rattle.std.proofs.lemmas.List.FromFn.{fill_by_all}
use Rattle.flp_field.specs.Word.{word_difference, word_product}
use Rattle.flp_hide.proofs.seeds.write_quotients.Goals as goal

pub returns : goal.returns
returns c =
    fill_by_all (λ (k : ℕ). word_product (word_difference (get_or c.args.high.now k 0) (get_or c.args.low.now k 0)) c.args.inverse)
    c.loop-k.out (length c.args.out.now) 0 (omega arith)
    (λ (k : ℕ) (low : k < length c.args.out.now). c.loop-k.invariant k (omega arith))
