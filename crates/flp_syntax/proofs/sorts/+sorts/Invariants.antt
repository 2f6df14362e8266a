use Rattle.std.proofs.Common.{◌≡◌, drop, map}
use Rattle.flp_syntax.specs.Tree.{items, trees}
use Rattle.flp_syntax.specs.Sorts.{has_shared_item, has_shared}
use Rattle.flp_syntax.specs.View.{tree_of, item_of}
use Rattle.flp_syntax.proofs.sorts.+sorts.Given as goal

-- those so far are public
abbrev pub invariant-has_shared-loop-factor : goal.invariant-has_shared-loop-factor
invariant-has_shared-loop-factor l = has_shared (trees (map tree_of l.factors)) ≡ has_shared (trees (map tree_of (drop l.factor-index l.factors)))

abbrev pub invariant-has_shared_item-loop-item : goal.invariant-has_shared_item-loop-item
invariant-has_shared_item-loop-item l = has_shared_item (items (map item_of l.list)) ≡ has_shared_item (items (map item_of (drop l.item-index l.list)))
