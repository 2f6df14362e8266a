use Rattle.std.proofs.Common.{ℕ, ◌≡◌, ◌<◌, get_or}
use Rattle.flp_plan.specs.Rows.{column}
use Rattle.flp_prove.proofs.wires.write_column.Given as goal

abbrev pub invariant-loop-place : goal.invariant-loop-place
invariant-loop-place l =
    (k : ℕ) → k < l.place → get_or l.out k 0 ≡ get_or (column l.size l.arity l.rows l.input) k 0
