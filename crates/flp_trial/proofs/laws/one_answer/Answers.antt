use Rattle.flp_trial.proofs.LawLemmas.{one_trial, one_fault, never_both}
use Rattle.flp_trial.proofs.laws.one_answer.Goals as goal

pub returns-clause-trial : goal.returns-clause-trial
returns-clause-trial c = one_trial c.one_answer.ensures.circuit

pub returns-clause-fault : goal.returns-clause-fault
returns-clause-fault c = one_fault c.one_answer.ensures.circuit c.one_answer.ensures.fault c.one_answer.ensures.never_both

pub returns-clause-never_both : goal.returns-clause-never_both
returns-clause-never_both c = never_both c.one_answer.ensures.circuit c.one_answer.ensures.never_both
