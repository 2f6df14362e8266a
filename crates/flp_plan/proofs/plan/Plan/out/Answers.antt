use Rattle.std.proofs.Common.{◌≡◌, [], length, ap, sym, ◌∙◌, arith, subst, Some, slice_get, refl}
use Rattle.flp_meaning.specs.Circuit.{outs_of}
use Rattle.flp_meaning.specs.Gadgets.{out_count}
use Rattle.flp_forms.specs.LinearForms.{share_of, FormFits}
use Rattle.flp_forms.specs.PublicValues.{publics}
use Rattle.flp_syntax.specs.View.{program_of}
use Rattle.flp_plan.specs.View.{Compiled, publics_of}
use Rattle.flp_plan.proofs.FormLemmas.{all_at, form_found}
use Rattle.flp_plan.proofs.TiedLemmas.{out_count-code, out_value, fits_as}
use Rattle.flp_plan.proofs.plan.Plan.out.Goals as goal

pub at-requires : goal.at-requires
at-requires c =
    let count = out_count-code (program_of c.self.inside.checked.body) c.self.inside.code c.self.invariant.tied in
    let seen = ap (λ (plan : Compiled). out_count plan.circuit) c.self.view_is in
    omega arith

pub form_at-requires : goal.form_at-requires
form_at-requires c =
    let count = out_count-code (program_of c.self.inside.checked.body) c.self.inside.code c.self.invariant.tied in
    let seen = ap (λ (plan : Compiled). out_count plan.circuit) c.self.view_is in
    let there = form_found c.self.inside.code.outs c.args.index c.at.result.now (omega arith) c.at.ensures in
    let words = ap (λ (plan : Compiled). plan.circuit.meas) c.self.view_is in
    let steps = ap (λ (plan : Compiled). length plan.steps) c.self.view_is in
    fits_as (length c.args.publics.now) (length c.args.x.now) 0
    (length c.self.inside.code.steps.steps) (program_of c.self.inside.checked.body).meas 0 c.at.result.now
    (omega arith) (omega arith) refl
    (all_at (FormFits (length c.self.inside.code.steps.steps) (program_of c.self.inside.checked.body).meas 0)
    c.self.inside.code.outs c.args.index c.at.result.now c.self.invariant.tied.outs_fit there)

pub returns : goal.returns
returns c joint same =
    let count = out_count-code (program_of c.self.inside.checked.body) c.self.inside.code c.self.invariant.tied in
    let seen = ap (λ (plan : Compiled). out_count plan.circuit) c.self.view_is in
    let there = form_found c.self.inside.code.outs c.args.index c.at.result.now (omega arith) c.at.ensures in
    subst (λ (plan : Compiled). slice_get (outs_of plan.circuit c.args.x.now) c.args.index ≡ Some c.form_at.result)
    c.self.view_is
    (out_value (program_of c.self.inside.checked.body) c.self.inside.code c.args.index c.at.result.now joint
    (share_of c.args.x.now [] 1) c.form_at.result c.self.invariant.tied c.self.invariant.keeps
    (c.requires.words ∙ ap (λ (plan : Compiled). plan.circuit.meas) (sym c.self.view_is)) there
    (c.form_at.ensures.reduced (publics c.self.inside.code.steps.steps joint)
    (same ∙ ap (λ (plan : Compiled). publics_of plan joint) (sym c.self.view_is))))
