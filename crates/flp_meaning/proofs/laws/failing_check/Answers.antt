use Rattle.flp_meaning.proofs.FailingLemmas as failing
use Rattle.flp_meaning.proofs.laws.failing_check.Goals as goal

pub returns : goal.returns
returns c = failing.failing_check_is_found
