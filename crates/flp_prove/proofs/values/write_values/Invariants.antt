use Rattle.std.proofs.Common.{ℕ, ◌≡◌, ◌<◌, get_or}
use Rattle.flp_gadget.specs.KindTree.{kind_arity, value_of}
use Rattle.flp_prove.specs.Rows.{across}
use Rattle.flp_prove.proofs.values.write_values.Given as goal

abbrev pub invariant-loop-point : goal.invariant-loop-point
invariant-loop-point l =
    (k : ℕ) → k < l.point → get_or l.values k 0 ≡ value_of l.kind (across (kind_arity l.kind) l.points l.wires k)
