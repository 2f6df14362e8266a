use Rattle.std.proofs.Common.{ℕ, ◌<◌, length, arith}
use Rattle.std.proofs.lemmas.List.FromFn.{fill_by_all}
use Rattle.flp_gadget.specs.KindTree.{kind_arity, value_of}
use Rattle.flp_prove.specs.Rows.{across}
use Rattle.flp_prove.proofs.values.write_values.Goals as goal

pub returns : goal.returns
returns c =
    fill_by_all (λ (k : ℕ). value_of c.args.kind.now (across (kind_arity c.args.kind.now) (length c.args.values.now) c.args.wires.now k))
    c.loop-point.values (length c.args.values.now) 0 (omega arith)
    (λ (k : ℕ) (low : k < length c.args.values.now). c.loop-point.invariant k (omega arith))
