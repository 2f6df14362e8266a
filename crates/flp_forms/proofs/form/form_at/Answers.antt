use Rattle.std.proofs.Common.{List, ℕ, ap, ◌∙◌, ◌%◌, arith}
use Rattle.std.proofs.lemmas.List.{take_all}
use Rattle.flp_field.specs.Word.{modulus}
use Rattle.flp_forms.specs.declared.term.Term.{Term}
use Rattle.flp_forms.specs.LinearForms.{Share, share_of, form_value}
use Rattle.flp_forms.proofs.FormLemmas.{form_value-reduced}
use Rattle.flp_forms.proofs.form.form_at.Goals as goal

pub returns-clause-reduced : goal.returns-clause-reduced
returns-clause-reduced c values same =
    let share : Share = share_of c.args.meas.now c.args.answers.now c.args.unit in
    c.loop-term.invariant
    ∙ ap (λ (terms : List Term). form_value c.args.publics.now share terms % modulus)
    (take_all c.loop-term.term-index c.args.terms.now (omega arith))
    ∙ ap (λ (publics : List ℕ). form_value publics share c.args.terms.now % modulus) same
    ∙ form_value-reduced values share c.args.terms.now
