use Rattle.std.proofs.Common.{◌∙◌, ◌+◌, ◌*◌, ◌%◌, ◌/◌, ap, sym, subst, rules, arith}
use Rattle.std.proofs.lemmas.Grind.{get_or_default_zero}
use Rattle.flp_tally.specs.declared.view.View.{View}
use Rattle.flp_tally.specs.Views.{MayAdd, with_entry}
use Rattle.flp_tally.specs.Held.{Board}
use Rattle.flp_tally.specs.Rows.{half}
use Rattle.flp_tally.proofs.Rows.{free_before, free_between, with_row_more}
use Rattle.flp_tally.proofs.tally.Tally.add.Goals as goal

pub add_half-requires-clause-may_add : goal.add_half-requires-clause-may_add
add_half-requires-clause-may_add c = let i = c.loop-element.element in let x = c.args.number in let low = half x (2 * i) (c.value-word.result % 4294967296) in let n = ap (λ (b : Board). b.elements) c.self.view_is in
    subst (λ (u : View). MayAdd c.args.self.now.elements u low) (sym c.loop-element.invariant.1)
    record { cell = omega arith; amount = omega arith; claimed = c.requires.claimed; free = free_before c.args.seat.now.view x c.args.row.now i (2 * i) c.requires.once (omega arith) }

pub add_half-requires-in-loop-element-clause-may_add : goal.add_half-requires-in-loop-element-clause-may_add
add_half-requires-in-loop-element-clause-may_add c = let i = c.loop-element.element in let x = c.args.number in let w = c.value-word.result in let low = half x (2 * i) (w % 4294967296) in let high = half x (2 * i + 1) (w / 4294967296) in let n = ap (λ (b : Board). b.elements) c.self.view_is in
    subst (λ (u : View). MayAdd c.args.self.now.elements u high) (sym (c.add_half.ensures.added ∙ ap (λ (u : View). with_entry u low) c.loop-element.invariant.1))
    record { cell = omega arith; amount = omega arith; claimed = c.requires.claimed; free = free_between c.args.seat.now.view x c.args.row.now i (w % 4294967296) c.requires.once }

pub loop-element-preserved : goal.loop-element-preserved
loop-element-preserved c = let i = c.loop-element.element in let x = c.args.number in let w = c.value-word.result in let low = half x (2 * i) (w % 4294967296) in let high = half x (2 * i + 1) (w / 4294967296) in let n = ap (λ (b : Board). b.elements) c.self.view_is in let h = c.value-word.ensures in (
  search rules,
  c.add_half-in-loop-element.ensures.added ∙ (ap (λ (u : View). with_entry u high) (c.add_half.ensures.added ∙ ap (λ (u : View). with_entry u low) c.loop-element.invariant.1) ∙ with_row_more c.args.seat.now.view x c.args.row.now i w (omega arith) (h.same ∙ (c.index-row-element.is ∙ get_or_default_zero c.args.row.now i c.index-row-element.result (omega arith)))),
)
