use Rattle.flp_meaning.proofs.Verifiers as verifiers
use Rattle.flp_meaning.proofs.laws.verifiers_sum_up.Goals as goal

pub returns-clause-length : goal.returns-clause-length
returns-clause-length c = verifiers.verifiers_have_length

pub returns-clause-many : goal.returns-clause-many
returns-clause-many c = verifiers.verifiers_sum_up
