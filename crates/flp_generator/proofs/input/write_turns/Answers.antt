use Rattle.std.proofs.Common.{ℕ, ◌+◌, ◌%◌, ◌<◌, length, arith}
use Rattle.std.proofs.lemmas.List.FromFn.{fill_by_all}
use Rattle.flp_generator.proofs.input.write_turns.Goals as goal

pub returns : goal.returns
returns c =
    fill_by_all (λ (i : ℕ). (c.args.k + i) % 2) c.loop-j.x (length c.args.x.now) 0 (omega arith)
    (λ (i : ℕ) (below : i < length c.args.x.now). c.loop-j.invariant i (omega arith))
