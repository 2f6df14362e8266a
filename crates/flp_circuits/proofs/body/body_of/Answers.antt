use Rattle.std.proofs.Common.{subst, sym}
use Rattle.flp_syntax.specs.WellFormed.{ProgramIsWell}
use Rattle.flp_circuits.proofs.WellLemmas.{standard-well}
use Rattle.flp_circuits.proofs.body.body_of.Goals as goal

-- the circuit of the parameters is well formed, and the body is that circuit
pub returns-clause-well : goal.returns-clause-well
returns-clause-well c = subst ProgramIsWell (sym c.in_ok-build.ensures) (standard-well c.args.params.now)
