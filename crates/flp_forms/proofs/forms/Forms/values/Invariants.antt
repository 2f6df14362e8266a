use Rattle.std.proofs.Common.{ℕ, ◌≡◌, ◌+◌, ◌%◌, ◌<◌, get_or}
use Rattle.flp_field.specs.Word.{modulus}
use Rattle.flp_forms.specs.LinearForms.{form_in, form_value, share_of}
use Rattle.flp_forms.proofs.forms.Forms.values.Given as goal

abbrev pub invariant-loop-i : goal.invariant-loop-i
invariant-loop-i l =
    (j : ℕ) → j < l.i
    → get_or l.out j 0
    ≡ form_value l.publics (share_of l.meas l.answers l.unit) (form_in l.self (l.first + j)) % modulus
