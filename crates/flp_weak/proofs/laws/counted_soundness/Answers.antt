use Rattle.flp_weak.proofs.WeakLemmas.{weak_is_bounded, bound_is_low}
use Rattle.flp_weak.proofs.laws.counted_soundness.Goals as goal

pub returns-clause-bounded : goal.returns-clause-bounded
returns-clause-bounded c = weak_is_bounded c.args.plan.now.circuit c.is_bounded.ensures

pub returns-clause-low : goal.returns-clause-low
returns-clause-low c = bound_is_low c.args.plan.now.circuit c.is_bounded.ensures
