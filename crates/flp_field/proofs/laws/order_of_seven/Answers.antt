use Rattle.std.proofs.Common.{ℕ, ◌≡◌, ◌+◌, subst}
use Rattle.flp_field.specs.Word.{modulus}
use Rattle.flp_field.specs.Order.{HasOrder}
use Rattle.flp_field.proofs.Order.{size_of_group, seven_has_order}
use Rattle.flp_field.proofs.laws.order_of_seven.Goals as goal

pub returns : goal.returns
returns c =
    let P : ℕ → Type 0 = λ (x : ℕ). HasOrder 7 x in
    λ (n : ℕ) (e : n + 1 ≡ modulus). subst P (size_of_group n e) seven_has_order
