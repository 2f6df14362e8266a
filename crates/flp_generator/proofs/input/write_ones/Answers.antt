use Rattle.std.proofs.Common.{ℕ, ◌+◌, ◌%◌, ◌<◌, cond, ltb, length, arith}
use Rattle.std.proofs.lemmas.List.FromFn.{fill_by_all}
use Rattle.flp_generator.proofs.input.write_ones.Goals as goal

pub returns : goal.returns
returns c =
    fill_by_all (λ (i : ℕ). cond (ltb ((i + c.args.k) % length c.args.numbers.now) c.args.below) 1 0) c.loop-j.numbers (length c.args.numbers.now) 0 (omega arith)
    (λ (i : ℕ) (below : i < length c.args.numbers.now). c.loop-j.invariant i (omega arith))
