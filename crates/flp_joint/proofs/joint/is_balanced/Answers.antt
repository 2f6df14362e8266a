use Rattle.std.proofs.Common.{arith}
use Rattle.flp_joint.proofs.BitLemmas.{headroom_small}
use Rattle.flp_joint.proofs.EncodingLemmas.{weight_limit}
use Rattle.flp_joint.proofs.FixedLemmas.{multihot_total}
use Rattle.flp_joint.proofs.joint.is_balanced.Goals as goal

pub word_of-requires : goal.word_of-requires
word_of-requires c =
    let limit = weight_limit c.args.count c.args.weight c.args.chunk c.requires.fits in
    omega (arith, headroom_small c.bit_lengths.ensures c.args.weight (omega (arith, limit.1)), c.headroom.ensures)

pub returns : goal.returns
returns c =
    rw (c.eq.ensures, c.eval.ensures, c.add.ensures, c.add-raised.ensures, c.total.ensures, c.word_of.ensures, c.headroom.ensures) (multihot_total c.args.count c.args.weight c.args.chunk c.args.x.now c.split_at.result.0.now c.split_at.result.1.now c.requires.words c.split_at.ensures.front c.split_at.ensures.back)
