use Rattle.std.proofs.Common.{refl}
use Rattle.flp_joint.proofs.EncodingLemmas.{count_is, histogram_test, sum_vec_is}
use Rattle.flp_joint.proofs.encoded.adds_up.Goals as goal

pub returns-in-Count : goal.returns-in-Count
returns-in-Count c = rw c.in-Count.is (λ _. count_is c.args.x.now (rw c.in-Count.is at c.requires.words) c.requires.bits, λ _. refl)

pub returns-in-SumVec : goal.returns-in-SumVec
returns-in-SumVec c =
    rw c.in-SumVec.is (λ _. sum_vec_is c.in-SumVec.length c.in-SumVec.bits c.in-SumVec.chunk c.args.x.now (rw c.in-SumVec.is at c.requires.words) c.requires.bits, λ _. refl)

pub returns-in-Histogram : goal.returns-in-Histogram
returns-in-Histogram c =
    rw (c.in-Histogram.is, c.ones.ensures) (histogram_test c.in-Histogram.length c.in-Histogram.chunk c.args.x.now (rw c.in-Histogram.is at c.requires.words) c.requires.bits)
