use Rattle.std.proofs.Common.{inl}
use Rattle.flp_load.proofs.circuit.load_circuit.Goals as goal

pub returns-in-Err-clause-fault : goal.returns-in-Err-clause-fault
returns-in-Err-clause-fault c = c.from_lang.ensures c.args.text.now (λ other. inl c.in-Err.ensures.fault)

pub returns-in-Standard-clause-loaded : goal.returns-in-Standard-clause-loaded
returns-in-Standard-clause-loaded c = c.load_standard.ensures.loaded c.args.text.now (rw c.in-Standard.is at c.in-Ok.ensures.circuit)

pub returns-in-Standard-clause-fault : goal.returns-in-Standard-clause-fault
returns-in-Standard-clause-fault c = c.load_standard.ensures.fault c.args.text.now (rw c.in-Standard.is at c.in-Ok.ensures.circuit)

pub returns-in-Body-clause-loaded : goal.returns-in-Body-clause-loaded
returns-in-Body-clause-loaded c = c.load_body.ensures.loaded c.args.text.now (rw c.in-Body.is at c.in-Ok.ensures.circuit)

pub returns-in-Body-clause-fault : goal.returns-in-Body-clause-fault
returns-in-Body-clause-fault c = c.load_body.ensures.fault c.args.text.now (rw c.in-Body.is at c.in-Ok.ensures.circuit)
