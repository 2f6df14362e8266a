use Rattle.flp_weak.proofs.WeakLemmas.{weak_is_bounded}
use Rattle.flp_weak.proofs.ChoiceLemmas as choices
use Rattle.flp_weak.proofs.laws.few_choices.Goals as goal

pub returns : goal.returns
returns c = choices.few_choices c.args.plan.now.circuit (weak_is_bounded c.args.plan.now.circuit c.is_bounded.ensures)
