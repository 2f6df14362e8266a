use Rattle.std.proofs.Common.{None}
use Rattle.flp_load.proofs.circuit.load_body.Goals as goal

pub returns-in-Err-clause-fault : goal.returns-in-Err-clause-fault
returns-in-Err-clause-fault c = λ text is. c.in-Err.ensures.fault text None is
