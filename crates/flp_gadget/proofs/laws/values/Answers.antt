use Rattle.flp_gadget.proofs.FlatLemmas.{value-word}
use Rattle.flp_gadget.proofs.laws.values.Goals as goal

pub returns : goal.returns
returns c = value-word
