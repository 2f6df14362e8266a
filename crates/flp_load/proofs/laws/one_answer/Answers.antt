use Rattle.flp_load.proofs.AnswerLemmas.{one_circuit, one_fault, never_both}
use Rattle.flp_load.proofs.laws.one_answer.Goals as goal

pub returns : goal.returns
returns c = record { circuit = one_circuit; fault = one_fault; never_both = never_both }
