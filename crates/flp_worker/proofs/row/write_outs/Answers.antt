use Rattle.std.proofs.Common.{ℕ, ◌≡◌, ◌<◌, List, [], length, get_or, sym, arith}
use Rattle.std.proofs.lemmas.Option.{get_or_from_slice_get}
use Rattle.std.proofs.lemmas.Grind.{same_number_lists}
use Rattle.flp_meaning.specs.Circuit.{outs_of, direct}
use Rattle.flp_meaning.specs.Gadgets.{out_count}
use Rattle.flp_meaning.proofs.Fixed.{outs_are_fixed}
use Rattle.flp_worker.proofs.row.write_outs.Goals as goal

pub returns : goal.returns
returns c joint same =
    let outs : List ℕ = outs_of c.args.plan.now.circuit c.args.x.now in
    let count : length outs ≡ out_count c.args.plan.now.circuit = outs_are_fixed c.args.plan.now.circuit (direct c.args.plan.now.circuit c.args.x.now []) in
    same_number_lists c.loop-index.row outs (omega (arith, count, c.loop-index.auto.row, c.requires.row))
    (λ (k : ℕ) (below : k < length c.loop-index.row).
    sym (get_or_from_slice_get outs k (get_or c.loop-index.row k 0) 0 (c.loop-index.invariant joint same k (omega arith))))
