use Rattle.std.proofs.Common.{ap, sym, subst, List, ℕ, arith}
use Rattle.flp_forms.specs.StraightLine.{StraightLine, StandsFor}
use Rattle.flp_forms.specs.PublicValues.{step_value, publics}
use Rattle.flp_forms.proofs.LineLemmas.{stands_pushed}
use Rattle.flp_forms.proofs.steps.Steps.place.Goals as goal

pub returns-clause-value : goal.returns-clause-value
returns-clause-value c =
    subst (λ (line : StraightLine). StandsFor line c.len-index.result (λ (joint : List ℕ). step_value (publics c.args.self.now.steps joint) joint c.args.step.now)) (sym c.remember.ensures)
    (stands_pushed c.self.inside.joint c.len-index.result c.args.self.now.steps c.self.inside.items.items
    c.push.new.self.items c.args.step.now (ap (λ (line : StraightLine). line.steps) c.self.view_is)
    c.in_ok-push.ensures.items (omega arith))
