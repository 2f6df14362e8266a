use Rattle.std.proofs.Common.{◌≡◌, length, ap, sym, ◌∙◌, arith, subst, Some, slice_get}
use Rattle.flp_meaning.specs.Circuit.{checks_of, with_answers}
use Rattle.flp_meaning.specs.Gadgets.{check_count, call_count}
use Rattle.flp_forms.specs.LinearForms.{share_of, FormFits}
use Rattle.flp_forms.specs.PublicValues.{publics}
use Rattle.flp_syntax.specs.View.{program_of}
use Rattle.flp_plan.specs.View.{Compiled, publics_of}
use Rattle.flp_plan.proofs.FormLemmas.{all_at, form_found}
use Rattle.flp_plan.proofs.TiedLemmas.{check_count-code, call_count-code, check_value, fits_as}
use Rattle.flp_plan.proofs.plan.Plan.check.Goals as goal

pub at-requires : goal.at-requires
at-requires c =
    let count = check_count-code (program_of c.self.inside.checked.body) c.self.inside.code c.self.invariant.tied in
    let seen = ap (λ (plan : Compiled). check_count plan.circuit) c.self.view_is in
    omega arith

pub form_at-requires : goal.form_at-requires
form_at-requires c =
    let count = check_count-code (program_of c.self.inside.checked.body) c.self.inside.code c.self.invariant.tied in
    let seen = ap (λ (plan : Compiled). check_count plan.circuit) c.self.view_is in
    let there = form_found c.self.inside.code.checks c.args.index c.at.result.now (omega arith) c.at.ensures in
    let calls_count = call_count-code (program_of c.self.inside.checked.body) c.self.inside.code c.self.invariant.tied in
    let calls = ap (λ (plan : Compiled). call_count plan.circuit) c.self.view_is in
    let words = ap (λ (plan : Compiled). plan.circuit.meas) c.self.view_is in
    let steps = ap (λ (plan : Compiled). length plan.steps) c.self.view_is in
    fits_as (length c.args.publics.now) (length c.args.x.now) (length c.args.answers.now)
    (length c.self.inside.code.steps.steps) (program_of c.self.inside.checked.body).meas (length c.self.inside.code.calls) c.at.result.now
    (omega arith) (omega arith) (omega arith)
    (all_at (FormFits (length c.self.inside.code.steps.steps) (program_of c.self.inside.checked.body).meas (length c.self.inside.code.calls))
    c.self.inside.code.checks c.args.index c.at.result.now c.self.invariant.tied.checks_fit there)

pub returns : goal.returns
returns c joint same =
    let count = check_count-code (program_of c.self.inside.checked.body) c.self.inside.code c.self.invariant.tied in
    let seen = ap (λ (plan : Compiled). check_count plan.circuit) c.self.view_is in
    let there = form_found c.self.inside.code.checks c.args.index c.at.result.now (omega arith) c.at.ensures in
    subst (λ (plan : Compiled). slice_get (checks_of plan.circuit (with_answers c.args.x.now joint c.args.unit c.args.answers.now)) c.args.index ≡ Some c.form_at.result)
    c.self.view_is
    (check_value (program_of c.self.inside.checked.body) c.self.inside.code c.args.index c.at.result.now joint
    (share_of c.args.x.now c.args.answers.now c.args.unit) c.form_at.result c.self.invariant.tied
    (c.requires.words ∙ ap (λ (plan : Compiled). plan.circuit.meas) (sym c.self.view_is)) there
    (c.form_at.ensures.reduced (publics c.self.inside.code.steps.steps joint)
    (same ∙ ap (λ (plan : Compiled). publics_of plan joint) (sym c.self.view_is))))
