use Rattle.std.proofs.Common.{◌≡◌, drop, map}
use Rattle.flp_syntax.specs.Tree.{index_items, indices, index_on}
use Rattle.flp_syntax.specs.View.{index_of, index_item_of, names_of}
use Rattle.flp_rename.specs.Renamed.{renamed_index_items, renamed_indices}
use Rattle.flp_rename.proofs.Fronts.{before, on_index_item}
use Rattle.flp_rename.proofs.index.+index.Given as goal

-- the copies so far, before those of the parts that are left
abbrev pub invariant-index_items-loop-item : goal.invariant-index_items-loop-item
invariant-index_items-loop-item l =
    before on_index_item (map index_item_of l.copy.items) (renamed_index_items (names_of l.names) (index_items (map index_item_of (drop l.item-index l.items))))
    ≡ renamed_index_items (names_of l.names) (index_items (map index_item_of l.items))

abbrev pub invariant-indices-loop-factor : goal.invariant-indices-loop-factor
invariant-indices-loop-factor l =
    before index_on (map index_of l.copy.items) (renamed_indices (names_of l.names) (indices (map index_of (drop l.factor-index l.factors))))
    ≡ renamed_indices (names_of l.names) (indices (map index_of l.factors))
