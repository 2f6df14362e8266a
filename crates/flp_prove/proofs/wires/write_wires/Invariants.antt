use Rattle.std.proofs.Common.{◌≡◌, ◌*◌, take, map}
use Rattle.std.specs.List.{range_with_len}
use Rattle.flp_poly.specs.Polynomial.{values_on}
use Rattle.flp_poly.specs.Interpolation.{interpolated}
use Rattle.flp_plan.specs.Rows.{column}
use Rattle.flp_prove.specs.Rows.{joined}
use Rattle.flp_prove.proofs.wires.write_wires.Given as goal

abbrev pub invariant-loop-input : goal.invariant-loop-input
invariant-loop-input l =
    take (l.input * l.points) l.wires
    ≡ joined (map (λ input. values_on l.points (interpolated (column l.size l.arity l.rows input))) (range_with_len 0 l.input))
