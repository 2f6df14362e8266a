use Rattle.flp_batch.proofs.AnswerLemmas.{one_setting, one_fault, never_both}
use Rattle.flp_batch.proofs.laws.one_answer.Goals as goal

pub returns-clause-setting : goal.returns-clause-setting
returns-clause-setting c = one_setting c.one_answer.ensures.circuit

pub returns-clause-fault : goal.returns-clause-fault
returns-clause-fault c = one_fault c.one_answer.ensures.circuit c.one_answer.ensures.fault c.one_answer.ensures.never_both

pub returns-clause-never_both : goal.returns-clause-never_both
returns-clause-never_both c = never_both c.one_answer.ensures.circuit c.one_answer.ensures.never_both
