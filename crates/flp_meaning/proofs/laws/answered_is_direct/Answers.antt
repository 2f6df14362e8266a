use Rattle.flp_meaning.proofs.Answers as answers
use Rattle.flp_meaning.proofs.laws.answered_is_direct.Goals as goal

pub returns-clause-own : goal.returns-clause-own
returns-clause-own c = answers.answered_is_direct

pub returns-clause-filled : goal.returns-clause-filled
returns-clause-filled c = answers.calls_are_filled
