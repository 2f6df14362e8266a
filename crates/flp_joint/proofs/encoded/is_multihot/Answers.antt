use Rattle.std.proofs.Common.{arith}
use Rattle.flp_joint.proofs.BitLemmas.{length_limit, headroom_small}
use Rattle.flp_joint.proofs.PlaceLemmas.{weight-le-length}
use Rattle.flp_joint.proofs.EncodingLemmas.{multihot_test, weight_limit}
use Rattle.flp_joint.proofs.encoded.is_multihot.Goals as goal

pub number_of-requires-clause-few : goal.number_of-requires-clause-few
number_of-requires-clause-few c =
    let limit = weight_limit c.args.count c.args.weight c.args.chunk c.requires.fits in
    omega (arith, length_limit c.bit_lengths.ensures c.args.weight (omega (arith, limit.1)), c.split_at.ensures.back_len, c.requires.words)

pub overflow_add-result : goal.overflow_add-result
overflow_add-result c =
    let limit = weight_limit c.args.count c.args.weight c.args.chunk c.requires.fits in
    omega (arith, headroom_small c.bit_lengths.ensures c.args.weight (omega (arith, limit.1)), c.headroom.ensures, c.ones.ensures, weight-le-length c.split_at.result.0.now, c.split_at.ensures.front_len, limit.0)

pub returns : goal.returns
returns c =
    rw (c.headroom.ensures, c.ones.ensures) (multihot_test c.bit_lengths.ensures c.args.count c.args.weight c.args.chunk c.args.x.now c.split_at.result.0.now c.split_at.result.1.now c.number_of.result c.requires.words c.requires.bits c.split_at.ensures.front c.split_at.ensures.back c.number_of.ensures.below c.number_of.ensures.bits)
