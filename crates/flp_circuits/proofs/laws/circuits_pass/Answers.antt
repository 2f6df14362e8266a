use Rattle.flp_circuits.proofs.Passing.{circuits_pass}
use Rattle.flp_circuits.proofs.laws.circuits_pass.Goals as goal

pub returns : goal.returns
returns c = circuits_pass
