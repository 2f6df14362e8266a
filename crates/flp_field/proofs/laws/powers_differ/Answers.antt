use Rattle.flp_field.proofs.RootsOfUnity.{powers_differ}
use Rattle.flp_field.proofs.laws.powers_differ.Goals as goal

pub returns : goal.returns
returns c = powers_differ
