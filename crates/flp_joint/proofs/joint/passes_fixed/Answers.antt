use Rattle.flp_joint.proofs.FixedLemmas.{count_passes, sum_passes, histogram_total}
use Rattle.flp_joint.proofs.joint.passes_fixed.Goals as goal

pub returns-in-Count : goal.returns-in-Count
returns-in-Count c =
    rw c.in-Count.is (count_passes c.bit_lengths.ensures c.args.x.now c.is_encoding.result (rw c.in-Count.is at c.requires.fits) (rw c.in-Count.is at c.requires.words) c.words.ensures (rw c.in-Count.is at c.is_encoding.ensures))

pub returns-in-Sum : goal.returns-in-Sum
returns-in-Sum c =
    rw c.in-Sum.is (sum_passes c.bit_lengths.ensures c.in-Sum.max c.args.x.now c.is_encoding-in-Sum.result (rw c.in-Sum.is at c.requires.fits) (rw c.in-Sum.is at c.requires.words) c.words.ensures (rw c.in-Sum.is at c.is_encoding-in-Sum.ensures))

pub returns-in-Histogram : goal.returns-in-Histogram
returns-in-Histogram c =
    rw (c.in-Histogram.is, c.eq.ensures, c.total.ensures) (histogram_total c.in-Histogram.length c.in-Histogram.chunk c.args.x.now (rw c.in-Histogram.is at c.requires.words))
