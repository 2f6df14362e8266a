use Rattle.flp_query.proofs.LawLemmas.{honest_is_taken, shared_honest_is_taken}
use Rattle.flp_query.proofs.laws.honest.Goals as goal

pub returns-clause-taken : goal.returns-clause-taken
returns-clause-taken c = honest_is_taken c.args.plan.now.circuit c.is_bounded.ensures

pub returns-clause-shared : goal.returns-clause-shared
returns-clause-shared c = shared_honest_is_taken c.args.plan.now.circuit c.is_bounded.ensures c.is_linear.ensures
