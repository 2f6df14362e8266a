-- The public values of a plan.
use Rattle.std.proofs.Common.{ℕ, ◌≡◌, ◌%◌, List, length, ap, ◌∙◌}
use Rattle.std.proofs.lemmas.List.{length-map}
use Rattle.flp_field.specs.Word.{modulus}
use Rattle.flp_forms.specs.PublicValues.{publics}
use Rattle.flp_forms.proofs.PublicLemmas.{length-publics}
use Rattle.flp_plan.specs.View.{Compiled, publics_of}

-- there is one for each step
pub length-made : (plan : Compiled) (joint made : List ℕ) → made ≡ publics_of plan joint → length made ≡ length plan.steps
length-made plan joint made are =
    ap (λ (l : List ℕ). length l) are
    ∙ length-map (publics plan.steps joint) (λ (value : ℕ). value % modulus)
    ∙ length-publics plan.steps joint
