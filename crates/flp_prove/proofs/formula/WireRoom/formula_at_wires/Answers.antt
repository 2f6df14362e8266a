use Rattle.std.proofs.Common.{ℕ, ◌*◌, ◌≤◌, vec_len, sym, subst, ◌∙◌}
use Rattle.flp_meaning.specs.Gadgets.{arity_of, size_of}
use Rattle.flp_plan.specs.Sizes.{words_of_rows}
use Rattle.flp_plan.proofs.SizeLemmas.{enough-at}
use Rattle.flp_prove.specs.Room.{points_of, words_of_wires}
use Rattle.flp_prove.proofs.formula.WireRoom.formula_at_wires.Goals as goal

pub write_formula-requires-clause-rows : goal.write_formula-requires-clause-rows
write_formula-requires-clause-rows c =
    subst (λ (n : ℕ). size_of c.args.plan.now.circuit c.args.gadget * arity_of c.args.plan.now.circuit c.args.gadget ≤ n) (sym c.deref_mut.ensures.len)
    (enough-at c.args.plan.now words_of_rows c.self.inside.sizes (vec_len c.self.inside.rows) c.args.gadget (c.self.view_is ∙ c.requires.made)
    c.self.invariant.for_rows c.requires.gadget)

pub write_formula-requires-clause-wires : goal.write_formula-requires-clause-wires
write_formula-requires-clause-wires c =
    subst (λ (n : ℕ). arity_of c.args.plan.now.circuit c.args.gadget * points_of c.args.plan.now.circuit c.args.gadget ≤ n) (sym c.deref_mut-2.ensures.len)
    (enough-at c.args.plan.now words_of_wires c.self.inside.sizes (vec_len c.self.inside.wires) c.args.gadget (c.self.view_is ∙ c.requires.made)
    c.self.invariant.for_wires c.requires.gadget)
