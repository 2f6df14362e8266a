use Rattle.flp_circuits.proofs.BitLemmas.{bit_length-is}
use Rattle.flp_circuits.proofs.laws.bit_lengths.Goals as goal

pub returns : goal.returns
returns c = bit_length-is
