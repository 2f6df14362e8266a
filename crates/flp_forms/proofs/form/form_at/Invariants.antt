use Rattle.std.proofs.Common.{◌≡◌, ◌%◌, take}
use Rattle.flp_field.specs.Word.{modulus}
use Rattle.flp_forms.specs.LinearForms.{share_of, form_value}
use Rattle.flp_forms.proofs.form.form_at.Given as goal

abbrev pub invariant-loop-term : goal.invariant-loop-term
invariant-loop-term l = l.sum ≡ form_value l.publics (share_of l.meas l.answers l.unit) (take l.term-index l.terms) % modulus
