use Rattle.std.proofs.Common.{ℕ, ◌+◌, ◌*◌, ◌<◌, ◌∙◌, List, get_or, ap, arith}
use Rattle.std.proofs.lemmas.List.FromFn.{fill_by_all}
use Rattle.flp_gadget.specs.KindTree.{kind_arity, value_of}
use Rattle.flp_prove.proofs.values.value_at_point.Goals as goal

pub returns : goal.returns
returns c =
    c.eval.ensures
    ∙ ap (λ (xs : List ℕ). value_of c.args.kind.now xs)
    (fill_by_all (λ (k : ℕ). get_or c.args.wires.now (k * c.args.points + c.args.point) 0) c.loop-input.inputs (kind_arity c.args.kind.now) 0 (omega arith)
    (λ (k : ℕ) (low : k < kind_arity c.args.kind.now). c.loop-input.invariant k (omega arith)))
