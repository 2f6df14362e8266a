use Rattle.std.proofs.Common.{◌≡◌, ap, ◌∙◌, map, ◌++◌, ◌+◌, drop}
use Rattle.flp_syntax.specs.Tree.{index_add, index_items}
use Rattle.flp_syntax.specs.View.{index_of, index_item_of, index_of_Add}
use Rattle.std.proofs.lemmas.List.{drop_all}
use Rattle.flp_lang.specs.Spelling.{rest_text}
use Rattle.flp_lang.specs.Print.{put_more_index_items}
use Rattle.flp_lang.proofs.Writing.{first_left, index_item_of_out}
use Rattle.flp_lang.proofs.printer.Printer.+printed_index.Goals as goal

pub index-returns-in-Add : goal.index-returns-in-Add
index-returns-in-Add t c =
    let e : index_of c.args.idx.now ≡ index_add c.in-Add.at (index_items (map index_item_of c.in-Add.items)) = ap index_of c.in-Add.is ∙ index_of_Add _ _ in
    rw (e, ← c.as_slice-in-Add.ensures) c.index_items.ensures

pub index_items-loop-item-preserved : goal.index_items-loop-item-preserved
index_items-loop-item-preserved t c = λ s.
    c.loop-item.invariant s
    ∙ ap (λ xs. c.loop-item.self.text.items ++ rest_text (put_more_index_items (index_items xs) s)) (first_left index_item_of c.in-Some.more.now c.loop-item.item-index c.item-item.result _ c.loop-item-test.true c.item-item.is (index_item_of_out c.item-item.result))
    ∙ c.in_ok-sign.ensures _ ∙ c.in_ok-index_item-2.ensures (put_more_index_items (index_items (map index_item_of (drop (c.loop-item.item-index + 1) c.in-Some.more.now))) s)

pub index_items-returns : goal.index_items-returns
index_items-returns t c = λ s. c.loop-item.invariant s ∙ ap (λ xs. c.loop-item.self.text.items ++ rest_text (put_more_index_items (index_items (map index_item_of xs)) s)) (drop_all c.loop-item.item-index c.in-Some.more.now c.loop-item-test.false)
