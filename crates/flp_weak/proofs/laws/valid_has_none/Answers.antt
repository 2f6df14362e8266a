use Rattle.flp_weak.proofs.WeakLemmas as weaklemmas
use Rattle.flp_weak.proofs.laws.valid_has_none.Goals as goal

pub returns : goal.returns
returns c = weaklemmas.valid_has_none c.args.plan.now.circuit
