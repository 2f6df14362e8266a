use Rattle.flp_query.proofs.LawLemmas.{verifiers_of_shares, refusals_are_alike}
use Rattle.flp_query.proofs.laws.shares.Goals as goal

pub returns-clause-sums : goal.returns-clause-sums
returns-clause-sums c = verifiers_of_shares c.args.plan.now.circuit c.is_linear.ensures

pub returns-clause-refusals : goal.returns-clause-refusals
returns-clause-refusals c = refusals_are_alike c.args.plan.now.circuit
