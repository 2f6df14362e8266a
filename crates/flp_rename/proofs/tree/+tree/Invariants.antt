use Rattle.std.proofs.Common.{◌≡◌, drop, map}
use Rattle.flp_syntax.specs.Tree.{items, trees, tree_on, arguments, arg_on}
use Rattle.flp_syntax.specs.View.{tree_of, item_of, arg_of, names_of}
use Rattle.flp_rename.specs.Renamed.{renamed_items, renamed_trees, renamed_arguments}
use Rattle.flp_rename.proofs.Fronts.{before, on_item}
use Rattle.flp_rename.proofs.tree.+tree.Given as goal

-- the copies so far, before those of the parts that are left
abbrev pub invariant-items-loop-item : goal.invariant-items-loop-item
invariant-items-loop-item l =
    before on_item (map item_of l.copy.items) (renamed_items (names_of l.names) (items (map item_of (drop l.item-index l.items))))
    ≡ renamed_items (names_of l.names) (items (map item_of l.items))

abbrev pub invariant-trees-loop-factor : goal.invariant-trees-loop-factor
invariant-trees-loop-factor l =
    before tree_on (map tree_of l.copy.items) (renamed_trees (names_of l.names) (trees (map tree_of (drop l.factor-index l.factors))))
    ≡ renamed_trees (names_of l.names) (trees (map tree_of l.factors))

abbrev pub invariant-arguments-loop-arg : goal.invariant-arguments-loop-arg
invariant-arguments-loop-arg l =
    before arg_on (map arg_of l.copy.items) (renamed_arguments (names_of l.names) (arguments (map arg_of (drop l.arg-index l.args))))
    ≡ renamed_arguments (names_of l.names) (arguments (map arg_of l.args))
