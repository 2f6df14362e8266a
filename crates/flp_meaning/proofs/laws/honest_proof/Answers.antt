use Rattle.flp_meaning.proofs.Honest as honest
use Rattle.flp_meaning.proofs.laws.honest_proof.Goals as goal

pub returns-clause-length : goal.returns-clause-length
returns-clause-length c = honest.honest_proof_has_length

pub returns-clause-parts : goal.returns-clause-parts
returns-clause-parts c = honest.honest_proof_has_parts

pub returns-clause-answers : goal.returns-clause-answers
returns-clause-answers c = honest.honest_proof_answers

pub returns-clause-proves : goal.returns-clause-proves
returns-clause-proves c = honest.honest_proof_proves
