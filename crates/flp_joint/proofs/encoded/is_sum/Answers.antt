use Rattle.std.proofs.Common.{arith}
use Rattle.flp_joint.proofs.BitLemmas.{length_limit, headroom_small, two_limit}
use Rattle.flp_joint.proofs.EncodingLemmas.{sum_test}
use Rattle.flp_joint.proofs.encoded.is_sum.Goals as goal

pub number_of-requires-clause-few : goal.number_of-requires-clause-few
number_of-requires-clause-few c = omega (arith, length_limit c.bit_lengths.ensures c.args.max c.requires.limit, c.split_at.ensures.front_len, c.requires.words)

pub number_of-requires-2-clause-few : goal.number_of-requires-2-clause-few
number_of-requires-2-clause-few c = omega (arith, length_limit c.bit_lengths.ensures c.args.max c.requires.limit, c.split_at.ensures.back_len, c.requires.words)

pub overflow_add-result : goal.overflow_add-result
overflow_add-result c =
    omega (arith, headroom_small c.bit_lengths.ensures c.args.max c.requires.limit, c.headroom.ensures, two_limit c.number_of.result _ (omega (arith, length_limit c.bit_lengths.ensures c.args.max c.requires.limit, c.split_at.ensures.front_len, c.requires.words)) c.number_of.ensures.below)

pub returns : goal.returns
returns c =
    rw c.headroom.ensures (sum_test c.bit_lengths.ensures c.args.max c.args.x.now c.split_at.result.0.now c.split_at.result.1.now c.number_of.result c.number_of-2.result c.requires.words c.split_at.ensures.front c.split_at.ensures.back c.number_of.ensures.below c.number_of.ensures.bits c.number_of-2.ensures.below c.number_of-2.ensures.bits)
