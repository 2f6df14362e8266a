use Rattle.std.proofs.Common.{List, ℕ, ap, ◌∙◌, ◌+◌, ◌%◌, arith}
use Rattle.flp_field.specs.Word.{modulus}
use Rattle.flp_forms.specs.declared.term.Term.{Term}
use Rattle.flp_forms.specs.LinearForms.{Share, share_of, form_value, form_in}
use Rattle.flp_forms.proofs.FormLemmas.{form_value-reduced}
use Rattle.flp_forms.proofs.forms.Forms.values.Goals as goal

pub returns-clause-reduced : goal.returns-clause-reduced
returns-clause-reduced c values same i below =
    let share : Share = share_of c.args.meas.now c.args.answers.now c.args.unit in
    let form : List Term = form_in c.args.self.now (c.args.first + i) in
    c.loop-i.invariant i (omega arith)
    ∙ ap (λ (publics : List ℕ). form_value publics share form % modulus) same
    ∙ form_value-reduced values share form
