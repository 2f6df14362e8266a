use Rattle.std.proofs.Common.{arith}
use Rattle.flp_query.proofs.wires.add_call.Goals as goal

pub returns-clause-sums : goal.returns-clause-sums
returns-clause-sums c joint same = (c.inputs.new.out, c.inputs.ensures.inputs joint same, c.add_row.ensures.sums)

pub returns-clause-room : goal.returns-clause-room
returns-clause-room c products most j low =
    let before = most j (omega arith) in
    let more = c.add_row.ensures.below j low in
    omega arith
