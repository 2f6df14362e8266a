use Rattle.std.proofs.Common.{ℕ, ◌*◌, ◌≤◌, vec_len, sym, subst}
use Rattle.flp_meaning.specs.Gadgets.{arity_of, size_of}
use Rattle.flp_plan.specs.declared.sizes.Sizes.{Sizes}
use Rattle.flp_plan.specs.Sizes.{AreEnough, words_of_rows}
use Rattle.flp_plan.proofs.SizeLemmas.{enough-each}
use Rattle.flp_prove.specs.Room.{points_of, words_of_wires}
use Rattle.flp_prove.proofs.formula.WireRoom.new.Goals as goal

pub invariant_of-result : goal.invariant_of-result
invariant_of-result c = record {
  for_rows =
      subst (λ (sizes : Sizes). AreEnough words_of_rows sizes.gadgets (vec_len c.in_ok-rows.rows)) (sym c.in_ok-sizes.ensures)
      (enough-each c.args.plan.now words_of_rows (vec_len c.in_ok-rows.rows)
      (λ g inside. subst (λ (n : ℕ). size_of c.args.plan.now.circuit g * arity_of c.args.plan.now.circuit g ≤ n) (sym c.in_ok-rows.ensures.len) (c.row_words.ensures.enough g inside)));
  for_wires =
      subst (λ (sizes : Sizes). AreEnough words_of_wires sizes.gadgets (vec_len c.in_ok-wires.wires)) (sym c.in_ok-sizes.ensures)
      (enough-each c.args.plan.now words_of_wires (vec_len c.in_ok-wires.wires)
      (λ g inside. subst (λ (n : ℕ). arity_of c.args.plan.now.circuit g * points_of c.args.plan.now.circuit g ≤ n) (sym c.in_ok-wires.ensures.len) (c.most_wire_words.ensures g inside)));
  for_inputs = c.in_ok-inputs.ensures.len;
  for_values = c.in_ok-values.ensures.len;
}
