use Rattle.flp_circuits.proofs.Programs.{checks_are}
use Rattle.flp_circuits.proofs.laws.checks_are_formulas.Goals as goal

pub returns : goal.returns
returns c = checks_are
