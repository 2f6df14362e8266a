use Rattle.std.proofs.Common.{ℕ, ◌≡◌, ◌*◌, ◌∙◌, length, ap, arith}
use Rattle.flp_joint.proofs.EncodingLemmas.{numbers_more}
use Rattle.flp_joint.proofs.decoding.read_numbers.Goals as goal

pub loop-n-preserved : goal.loop-n-preserved
loop-n-preserved c =
    let places : length c.args.out.now ≡ length c.loop-n.out = omega arith in
    numbers_more c.args.bits c.loop-n.out c.args.x.now c.loop-n.n-index c.loop-n.at c.number_of.result (omega arith) (c.requires.places ∙ ap (λ (k : ℕ). k * c.args.bits) places) c.loop-n.invariant.0 c.loop-n.invariant.1 c.loop-n.invariant.2 c.number_of.ensures.below c.number_of.ensures.bits
