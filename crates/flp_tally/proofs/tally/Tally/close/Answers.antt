use Rattle.std.proofs.Common.{◌∙◌, ◌+◌, ◌*◌, ◌%◌, ◌^◌, ap, ap₂, arith, ℕ}
use Rattle.flp_field.specs.Word.{modulus}
use Rattle.flp_tally.specs.declared.view.View.{View}
use Rattle.flp_tally.specs.declared.view.Shape.{Shape}
use Rattle.flp_tally.specs.Held.{Board, Held}
use Rattle.flp_tally.specs.Rows.{total_of}
use Rattle.flp_tally.proofs.Totals.{closed_word, totals_more, sums}
use Rattle.flp_tally.proofs.tally.Tally.close.Goals as goal

pub loop-element-preserved : goal.loop-element-preserved
loop-element-preserved c = let e = c.loop-element.element in let key = c.self.inside.table.shared.key in let v = c.seat.inside.place.me.0 in let k = c.close_with-closed.ensures.values.2 in
    let elements = ap (λ (b : Board). b.elements) c.self.view_is in let reports = ap (λ (b : Board). b.reports) c.self.view_is in
    let key_elements = ap (λ (s : Shape). s.elements) c.self.invariant.3 in let key_reports = ap (λ (s : Shape). s.reports) c.self.invariant.3 in
    let seen = ap (λ (h : Held). h.view) c.seat.view_is in let weight = ap (λ (u : View). u.weight) seen in let full = ap (λ (u : View). u.full) seen in let all = c.requires.weight in let place = c.cells-cells.ensures.place in
    let word = closed_word key.weight key.reports key.elements k.0.words _ k.0.views c.seat.inside.place.id v k.1.0 k.1.1 (omega (arith, c.seat.invariant.0, c.seat.invariant.1)) (omega arith) k.2 in
    let low = word (2 * e) (c.cells-cells.result + 2 * e) c.word-low.result (omega arith) (omega arith) c.word-low.ensures in
    let high = word (2 * e + 1) (c.cells-cells.result + 2 * e + 1) c.word-high.result (omega arith) (omega arith) c.word-high.ensures in
    totals_more (λ (i : ℕ). total_of i c.args.seat.view.added) c.loop-element.totals e c.total.result (omega arith) c.loop-element.invariant
    (c.total.ensures ∙ (ap₂ (λ (a b : ℕ). (a + 2 ^ 32 * b) % modulus) low high ∙ ap (λ (u : View). total_of e u.added) seen))

pub returns-clause-sums : goal.returns-clause-sums
returns-clause-sums c = sums c.args.seat.view.added c.loop-element.totals (λ e h. let n = ap (λ (b : Board). b.elements) c.self.view_is in c.loop-element.invariant e (omega arith))
