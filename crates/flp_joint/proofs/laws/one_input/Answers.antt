use Rattle.flp_joint.proofs.EncodingLemmas.{one_input}
use Rattle.flp_joint.proofs.laws.one_input.Goals as goal

pub returns : goal.returns
returns c = one_input c.bit_lengths.ensures
