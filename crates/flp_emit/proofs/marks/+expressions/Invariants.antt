use Rattle.std.proofs.Common.{◌≡◌, ◌++◌, drop, map}
use Rattle.flp_syntax.specs.Tree.{items, trees, arguments}
use Rattle.flp_syntax.specs.View.{tree_of, item_of, arg_of}
use Rattle.flp_emit.specs.Marks.{item_marks, factor_marks, argument_marks}
use Rattle.flp_emit.proofs.marks.+expressions.Given as goal

-- with the marks of the parts from here on they are all
abbrev pub invariant-mark_items-loop-item : goal.invariant-mark_items-loop-item
invariant-mark_items-loop-item l =
    l.marks.items ++ item_marks (items (map item_of (drop l.item-index l.list)))
    ≡ l.fn.marks.items ++ item_marks (items (map item_of l.list))

abbrev pub invariant-mark_factors-loop-factor : goal.invariant-mark_factors-loop-factor
invariant-mark_factors-loop-factor l =
    l.marks.items ++ factor_marks (trees (map tree_of (drop l.factor-index l.factors)))
    ≡ l.fn.marks.items ++ factor_marks (trees (map tree_of l.factors))

abbrev pub invariant-mark_arguments-loop-arg : goal.invariant-mark_arguments-loop-arg
invariant-mark_arguments-loop-arg l =
    l.marks.items ++ argument_marks (arguments (map arg_of (drop l.arg-index l.args)))
    ≡ l.fn.marks.items ++ argument_marks (arguments (map arg_of l.args))
