use Rattle.std.proofs.Common.{ℕ, ◌<◌, max, length, get_or, arith}
use Rattle.std.proofs.lemmas.List.FromFn.{fill_by_all}
use Rattle.flp_field.specs.Word.{word_sum}
use Rattle.flp_poly.proofs.arithmetic.add.Goals as goal

pub returns : goal.returns
returns c =
    fill_by_all (λ (k : ℕ). word_sum (get_or c.args.a.now k 0) (get_or c.args.b.now k 0)) c.loop-k.out
    (max (length c.args.a.now) (length c.args.b.now)) 0 (omega arith)
    (λ (k : ℕ) (h : k < max (length c.args.a.now) (length c.args.b.now)). c.loop-k.invariant k (omega arith))
