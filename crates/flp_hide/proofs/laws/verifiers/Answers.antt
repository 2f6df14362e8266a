use Rattle.flp_hide.proofs.VerifierLemmas.{verifiers_are_same, reseeded_match}
use Rattle.flp_hide.proofs.laws.verifiers.Goals as goal

pub returns-clause-same : goal.returns-clause-same
returns-clause-same c = verifiers_are_same c.args.plan.now.circuit c.is_bounded.ensures

pub returns-clause-matching : goal.returns-clause-matching
returns-clause-matching c = reseeded_match c.args.plan.now.circuit c.is_bounded.ensures
