use Rattle.std.proofs.Common.{ℕ, ◌≡◌, List, length}
use Rattle.flp_plan.specs.Rows.{column}
use Rattle.flp_prove.proofs.JoinedLemmas.{length-column}
use Rattle.flp_prove.proofs.TransformLemmas.{wire-transformed}
use Rattle.flp_prove.proofs.wires.write_wire.Goals as goal

pub returns : goal.returns
returns c =
    let col : List ℕ = column c.args.size c.args.arity c.args.rows.now c.args.input in
    let count : length col ≡ c.args.size = length-column c.args.size c.args.arity c.args.rows.now c.args.input in
    wire-transformed c.args.size (length c.args.wire.now) col c.write_column.new.out c.inverse.new.values c.forward.new.values
    count c.requires.size c.write_column.ensures c.inverse.ensures.coefficients c.forward.ensures
