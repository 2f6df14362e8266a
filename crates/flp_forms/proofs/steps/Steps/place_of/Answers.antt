use Rattle.std.proofs.Common.{List, subst, ap, ◌∙◌, ◌≡◌, Some, rules, arith}
use Rattle.std.specs.Prelude.{slice_get}
use Rattle.std.proofs.lemmas.Grind.{common_steps}
use Rattle.std.proofs.lemmas.Option.{gets}
use Rattle.flp_forms.specs.StraightLine.{StraightLine, IsStraightLine}
use Rattle.flp_forms.specs.declared.step.Step.{Step}
use Rattle.flp_forms.proofs.LineLemmas.{stands_there}
use Rattle.flp_forms.proofs.steps.Steps.place_of.Goals as goal

pub returns-then-eq : goal.returns-then-eq
returns-then-eq c =
    let same : c.in_ok-found.found.now ≡ c.args.step.now = search rules in
    let read : slice_get c.as_slice-steps.result.now c.in_ok-index.field-0.now ≡ Some c.in_ok-found.found.now =
    grind (arith, common_steps, gets, c.in_ok-found.ensures.lookup) in
    stands_there c.args.self.now c.in_ok-index.field-0.now c.args.step.now
    (subst (λ (line : StraightLine). IsStraightLine line.joint line.steps) c.self.view_is c.self.invariant)
    (subst (λ (line : StraightLine). slice_get line.steps c.in_ok-index.field-0.now ≡ Some c.args.step.now) c.self.view_is
    (subst (λ (steps : List Step). slice_get steps c.in_ok-index.field-0.now ≡ Some c.args.step.now) c.as_slice-steps.ensures.value
    (read ∙ ap (λ (step : Step). Some step) same)))
