use Rattle.std.proofs.Common.{Option, false, map, drop}
use Rattle.flp_syntax.specs.Tree.{items, trees, arguments}
use Rattle.flp_syntax.specs.View.{tree_of, item_of, arg_of, declaration_of}
use Rattle.flp_check.specs.declared.flaw.Flaw.{Flaw}
use Rattle.flp_syntax.specs.View.{names_of}
use Rattle.flp_check.specs.Flaws.{items_flaws, factors_flaws, args_flaws, Finds}
use Rattle.flp_check.proofs.text.Search.+expr.Given as goal

-- what is found from here on is found in all
abbrev pub invariant-items-loop-item : goal.invariant-items-loop-item
invariant-items-loop-item l =
    (after : Option Flaw) → Finds l.found.first (items_flaws (map declaration_of l.self.gadgets.now) (names_of l.place.names.now) l.place.in_out l.mixed (items (map item_of (drop l.item-index l.items)))) after
    → Finds l.fn.found.first (items_flaws (map declaration_of l.self.gadgets.now) (names_of l.place.names.now) l.place.in_out l.mixed (items (map item_of l.items))) after

abbrev pub invariant-factors-loop-factor : goal.invariant-factors-loop-factor
invariant-factors-loop-factor l =
    (after : Option Flaw) → Finds l.found.first (factors_flaws (map declaration_of l.self.gadgets.now) (names_of l.place.names.now) l.place.in_out l.behind (trees (map tree_of (drop l.factor-index l.factors)))) after
    → Finds l.fn.found.first (factors_flaws (map declaration_of l.self.gadgets.now) (names_of l.place.names.now) l.place.in_out false (trees (map tree_of l.factors))) after

abbrev pub invariant-args-loop-arg : goal.invariant-args-loop-arg
invariant-args-loop-arg l =
    (after : Option Flaw) → Finds l.found.first (args_flaws (map declaration_of l.self.gadgets.now) (names_of l.place.names.now) l.place.in_out (arguments (map arg_of (drop l.arg-index l.args)))) after
    → Finds l.fn.found.first (args_flaws (map declaration_of l.self.gadgets.now) (names_of l.place.names.now) l.place.in_out (arguments (map arg_of l.args))) after
