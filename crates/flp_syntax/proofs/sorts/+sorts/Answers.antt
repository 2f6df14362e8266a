use Rattle.std.proofs.Common.{◌+◌, map, drop, ap, sym, ◌∙◌}
use Rattle.flp_syntax.specs.Tree.{items}
use Rattle.flp_syntax.specs.Sorts.{has_shared_item}
use Rattle.flp_syntax.specs.View.{tree_of, item_of}
use Rattle.flp_syntax.proofs.Rests.{rest_items}
use Rattle.flp_syntax.proofs.Publics.{shared_item, public_item}
use Rattle.flp_syntax.proofs.sorts.+sorts.Goals as goal

pub has_shared_item-returns-then-is_shared : goal.has_shared_item-returns-then-is_shared
has_shared_item-returns-then-is_shared t c =
    let item = c.item-item.result in
    sym
    (c.loop-item.invariant
    ∙ ap has_shared_item (rest_items _ _ item c.loop-item-test.true c.item-item.is)
    ∙ shared_item item.minus (tree_of item.expr) (items (map item_of (drop (c.loop-item.item-index + 1) c.args.list.now)))
    (sym c.is_shared.ensures ∙ c.if-is_shared.true))

pub has_shared_item-loop-item-preserved : goal.has_shared_item-loop-item-preserved
has_shared_item-loop-item-preserved t c =
    let item = c.item-item.result in
    c.loop-item.invariant
    ∙ ap has_shared_item (rest_items _ _ item c.loop-item-test.true c.item-item.is)
    ∙ public_item item.minus (tree_of item.expr) (items (map item_of (drop (c.loop-item.item-index + 1) c.args.list.now)))
    (sym c.is_shared.ensures ∙ c.if-is_shared.false)
