use Rattle.std.proofs.Common.{Option, map, drop}
use Rattle.flp_syntax.specs.Tree.{index_items, indices}
use Rattle.flp_syntax.specs.View.{index_of, index_item_of}
use Rattle.flp_check.specs.declared.flaw.Flaw.{Flaw}
use Rattle.flp_syntax.specs.View.{names_of}
use Rattle.flp_check.specs.Flaws.{index_items_flaws, indices_flaws, Finds}
use Rattle.flp_check.proofs.text.Search.+index.Given as goal

-- what is found from here on is found in all
abbrev pub invariant-index_factors-loop-factor : goal.invariant-index_factors-loop-factor
invariant-index_factors-loop-factor l =
    (after : Option Flaw) → Finds l.found.first (indices_flaws (names_of l.names) (indices (map index_of (drop l.factor-index l.factors)))) after
    → Finds l.fn.found.first (indices_flaws (names_of l.names) (indices (map index_of l.factors))) after

abbrev pub invariant-index_items-loop-item : goal.invariant-index_items-loop-item
invariant-index_items-loop-item l =
    (after : Option Flaw) → Finds l.found.first (index_items_flaws (names_of l.names) (index_items (map index_item_of (drop l.item-index l.items)))) after
    → Finds l.fn.found.first (index_items_flaws (names_of l.names) (index_items (map index_item_of l.items))) after
