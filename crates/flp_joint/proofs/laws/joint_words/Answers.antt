use Rattle.flp_joint.proofs.JointLemmas.{caught_means}
use Rattle.flp_joint.proofs.laws.joint_words.Goals as goal

pub returns : goal.returns
returns c = caught_means c.bit_lengths.ensures c.checks_are_formulas.ensures
