use Rattle.std.proofs.Common.{◌≡◌, ℕ, List, length, take, drop, get_or, ap, sym, ◌∙◌, arith, subst, refl}
use Rattle.flp_meaning.specs.Circuit.{with_answers}
use Rattle.flp_meaning.specs.Gadgets.{arity_of, call_count, call_gadget}
use Rattle.flp_forms.specs.LinearForms.{share_of, FormFits}
use Rattle.flp_forms.specs.PublicValues.{publics}
use Rattle.flp_emit.specs.declared.code.CallForms.{CallForms}
use Rattle.flp_syntax.specs.View.{program_of}
use Rattle.flp_emit.specs.Code.{form_words}
use Rattle.flp_plan.specs.View.{Compiled, publics_of, HasInputs}
use Rattle.flp_plan.proofs.FormLemmas.{range_all, words_by_one}
use Rattle.flp_plan.proofs.TiedLemmas.{call_count-code, call_there, inputs_fit, written_inputs}
use Rattle.flp_plan.proofs.plan.Plan.inputs.Goals as goal

pub bounds-as_slice-call : goal.bounds-as_slice-call
bounds-as_slice-call c =
    let count = call_count-code (program_of c.self.inside.checked.body) c.self.inside.code c.self.invariant.tied in
    let seen = ap (λ (plan : Compiled). call_count plan.circuit) c.self.view_is in
    let size = ap (λ (l : List CallForms). length l) c.as_slice.ensures in
    omega arith

pub values-requires-clause-inside : goal.values-requires-clause-inside
values-requires-clause-inside c =
    let seen = ap (λ (plan : Compiled). call_count plan.circuit) c.self.view_is in
    let room = ap (λ (plan : Compiled). arity_of plan.circuit (call_gadget plan.circuit c.args.call)) c.self.view_is in
    let there = call_there (program_of c.self.inside.checked.body) c.self.inside.code c.as_slice.result.now c.args.call
    (record { gadget = 0; first = 0; end = 0 }) c.self.invariant.tied c.self.invariant.keeps c.as_slice.ensures (omega arith) in
    omega (arith, there.size, there.fit.ordered, there.fit.inside)

pub values-requires-clause-fit : goal.values-requires-clause-fit
values-requires-clause-fit c i below =
    let seen = ap (λ (plan : Compiled). call_count plan.circuit) c.self.view_is in
    let words = ap (λ (plan : Compiled). plan.circuit.meas) c.self.view_is in
    let steps = ap (λ (plan : Compiled). length plan.steps) c.self.view_is in
    let room = ap (λ (plan : Compiled). arity_of plan.circuit (call_gadget plan.circuit c.args.call)) c.self.view_is in
    let call : CallForms = get_or c.as_slice.result.now c.args.call (record { gadget = 0; first = 0; end = 0 }) in
    let there = call_there (program_of c.self.inside.checked.body) c.self.inside.code c.as_slice.result.now c.args.call
    (record { gadget = 0; first = 0; end = 0 }) c.self.invariant.tied c.self.invariant.keeps c.as_slice.ensures (omega arith) in
    range_all (FormFits (length c.args.publics.now) (length c.args.x.now) (length c.args.answers.now)) c.self.inside.code.inputs call.first
    (length c.args.out.now) i (omega (arith, there.size, there.fit.ordered, there.fit.inside))
    (inputs_fit (program_of c.self.inside.checked.body) c.self.inside.code c.args.call call (length c.args.publics.now) (length c.args.x.now)
    (length c.args.answers.now) (length c.args.out.now) there (omega arith) (omega arith) (omega arith) (omega arith)) below

pub returns-clause-earlier : goal.returns-clause-earlier
returns-clause-earlier c joint others same agree =
    let seen = ap (λ (plan : Compiled). call_count plan.circuit) c.self.view_is in
    let room = ap (λ (plan : Compiled). arity_of plan.circuit (call_gadget plan.circuit c.args.call)) c.self.view_is in
    let call : CallForms = get_or c.as_slice.result.now c.args.call (record { gadget = 0; first = 0; end = 0 }) in
    let there = call_there (program_of c.self.inside.checked.body) c.self.inside.code c.as_slice.result.now c.args.call
    (record { gadget = 0; first = 0; end = 0 }) c.self.invariant.tied c.self.invariant.keeps c.as_slice.ensures (omega arith) in
    let values : List ℕ = publics c.self.inside.code.steps.steps joint in
    let written : c.values.new.out
    ≡ form_words values (share_of c.args.x.now c.args.answers.now c.args.unit) (take (length c.values.new.out) (drop call.first c.self.inside.code.inputs)) =
    words_by_one c.values.new.out values (share_of c.args.x.now c.args.answers.now c.args.unit) c.self.inside.code.inputs call.first
    (omega (arith, there.size, there.fit.ordered, there.fit.inside, c.values.auto.out))
    (c.values.ensures.reduced values (same ∙ ap (λ (plan : Compiled). publics_of plan joint) (sym c.self.view_is))) in
    subst (λ (plan : Compiled). HasInputs plan.circuit (with_answers c.args.x.now joint c.args.unit others) c.args.call c.values.new.out)
    c.self.view_is
    (written_inputs (program_of c.self.inside.checked.body) c.self.inside.code c.args.call call joint c.args.x.now c.args.answers.now others
    c.values.new.out c.args.unit (length c.values.new.out) c.self.invariant.tied
    (c.requires.words ∙ ap (λ (plan : Compiled). plan.circuit.meas) (sym c.self.view_is)) there (omega (arith, c.values.auto.out)) written agree)

pub returns-clause-inputs : goal.returns-clause-inputs
returns-clause-inputs c joint same = returns-clause-earlier c joint c.args.answers.now same refl
