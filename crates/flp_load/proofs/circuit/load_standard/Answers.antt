use Rattle.std.proofs.Common.{Some}
use Rattle.flp_load.proofs.circuit.load_standard.Goals as goal

pub returns-in-Err-planned-clause-fault : goal.returns-in-Err-planned-clause-fault
returns-in-Err-planned-clause-fault c = λ text is. c.in-Err-planned.ensures.fault text (Some c.args.params) (is, c.in-Ok.ensures.fits, c.in-Ok.ensures.circuit)
