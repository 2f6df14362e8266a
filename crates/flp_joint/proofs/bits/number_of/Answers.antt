use Rattle.std.proofs.Common.{arith}
use Rattle.flp_joint.proofs.BitLemmas.{one_more}
use Rattle.flp_joint.proofs.bits.number_of.Goals as goal

pub loop-left-preserved : goal.loop-left-preserved
loop-left-preserved c =
    let more = one_more c.args.bits.now c.loop-left.left c.loop-left.number c.index-bits-left.result c.requires.bits (omega arith) c.loop-left.invariant.0 c.index-bits-left.is c.loop-left.invariant.1 c.loop-left.invariant.2 in
    rw c.value.ensures.same (omega arith, more.0, more.1)
