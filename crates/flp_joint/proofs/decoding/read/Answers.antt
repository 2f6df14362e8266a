use Rattle.std.proofs.Common.{◌<◌, ◌/◌, ℕ, length, sym, ap, ◌∙◌, ◌*◌}
use Rattle.std.proofs.lemmas.List.Elements.{All-take}
use Rattle.flp_syntax.specs.declared.syntax.Params.TheVariants.{Sum, SumVec}
use Rattle.flp_joint.proofs.BitLemmas.{length_limit}
use Rattle.flp_joint.proofs.EncodingLemmas.{encoding-bits, encoding-length, sum_limit, half-few, sum_answer, sum_vec_encodes, histogram_answer}
use Rattle.flp_joint.proofs.decoding.read.Goals as goal

pub number_of-requires-clause-bits : goal.number_of-requires-clause-bits
number_of-requires-clause-bits c =
    All-take (λ n. n < 2) (length c.args.x.now / 2) c.args.x.now (encoding-bits c.args.params.now c.args.x.now c.requires.encoding)

pub number_of-requires-clause-few : goal.number_of-requires-clause-few
number_of-requires-clause-few c =
    half-few c.args.x.now _ (encoding-length (Sum c.in-Sum.max) c.args.x.now (rw c.in-Sum.is at c.requires.encoding))
    (length_limit c.bit_lengths.ensures c.in-Sum.max (sum_limit c.in-Sum.max (rw c.in-Sum.is at c.requires.fits)))

pub read_numbers-requires-clause-places : goal.read_numbers-requires-clause-places
read_numbers-requires-clause-places c =
    encoding-length (SumVec c.in-SumVec.length c.in-SumVec.bits c.in-SumVec.chunk) c.args.x.now (rw c.in-SumVec.is at c.requires.encoding)
    ∙ ap (λ (k : ℕ). k * c.in-SumVec.bits) (sym (rw c.in-SumVec.is at c.requires.places))

pub read_numbers-requires-clause-bits : goal.read_numbers-requires-clause-bits
read_numbers-requires-clause-bits c = encoding-bits c.args.params.now c.args.x.now c.requires.encoding

pub place_of_one-requires-clause-bits : goal.place_of_one-requires-clause-bits
place_of_one-requires-clause-bits c = encoding-bits c.args.params.now c.args.x.now c.requires.encoding

pub returns-in-Sum : goal.returns-in-Sum
returns-in-Sum c =
    rw c.in-Sum.is (sum_answer c.bit_lengths.ensures c.in-Sum.max c.number_of.result c.args.x.now c.args.out.now (rw c.in-Sum.is at c.requires.encoding) (rw c.in-Sum.is at c.requires.places) c.number_of.ensures.below c.number_of.ensures.bits)

pub returns-in-SumVec : goal.returns-in-SumVec
returns-in-SumVec c =
    rw c.in-SumVec.is (sum_vec_encodes c.in-SumVec.length c.in-SumVec.bits c.in-SumVec.chunk c.args.x.now c.read_numbers.new.out (c.read_numbers.ensures.size ∙ (rw c.in-SumVec.is at c.requires.places)) c.read_numbers.ensures.below c.read_numbers.ensures.numbers)

pub returns-in-Histogram : goal.returns-in-Histogram
returns-in-Histogram c =
    rw c.in-Histogram.is (histogram_answer c.in-Histogram.length c.in-Histogram.chunk c.place_of_one.result c.args.x.now c.args.out.now (rw c.in-Histogram.is at c.requires.encoding) (rw c.in-Histogram.is at c.requires.places) c.place_of_one.ensures.below c.place_of_one.ensures.place)
