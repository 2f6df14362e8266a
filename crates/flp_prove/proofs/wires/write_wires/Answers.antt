use Rattle.std.proofs.Common.{ℕ, ◌≡◌, ◌+◌, ◌-◌, ◌*◌, ◌≤◌, ◌∙◌, List, ◌++◌, length, map, sym, ap, arith}
use Rattle.std.specs.List.{range_with_len}
use Rattle.flp_poly.specs.Polynomial.{values_on}
use Rattle.flp_poly.specs.Interpolation.{interpolated}
use Rattle.flp_plan.specs.Rows.{column}
use Rattle.flp_prove.specs.Rows.{joined}
use Rattle.flp_prove.proofs.JoinedLemmas.{part-written, joined-more}
use Rattle.flp_prove.proofs.wires.write_wires.Goals as goal

pub loop-input-preserved : goal.loop-input-preserved
loop-input-preserved c =
    let f : ℕ → List ℕ = λ input. values_on c.args.points (interpolated (column c.args.size c.args.arity c.args.rows.now input)) in
    let n : ℕ = c.loop-input.input in
    let inside : n * c.args.points + c.args.points ≤ c.args.arity * c.args.points = grind arith in
    let end : c.loop-input.input * c.args.points + c.args.points - c.loop-input.input * c.args.points ≡ c.args.points = omega arith in
    let count : length c.write_wire.new.wire ≡ c.args.points = omega arith in
    let written : c.write_wire.new.wire ≡ f n = c.write_wire.ensures ∙ ap (λ (k : ℕ). values_on k (interpolated (column c.args.size c.args.arity c.args.rows.now n))) (sym c.write_wire.auto.wire ∙ count) in
    part-written (n * c.args.points) _ c.loop-input.wires c.write_wire.new.wire (joined (map f (range_with_len 0 n))) ((n + 1) * c.args.points)
    c.loop-input.invariant (omega arith) (omega arith)
    ∙ ap (λ (l : List ℕ). joined (map f (range_with_len 0 n)) ++ l) written
    ∙ sym (joined-more f n)
