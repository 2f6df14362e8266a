use Rattle.flp_joint.proofs.FixedLemmas.{none_test}
use Rattle.flp_joint.proofs.joint.joint_word.Goals as goal

pub returns-clause-encoding : goal.returns-clause-encoding
returns-clause-encoding c = rw c.judge.ensures (none_test c.bit_lengths.ensures c.args.params.now c.args.x.now c.requires.fits c.requires.words c.words.ensures)
