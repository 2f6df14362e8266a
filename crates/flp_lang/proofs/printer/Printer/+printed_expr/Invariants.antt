use Rattle.std.proofs.Common.{drop, map}
use Rattle.flp_syntax.specs.Tree as mirror
use Rattle.flp_syntax.specs.Tree.{trees, arguments}
use Rattle.flp_syntax.specs.View.{tree_of, item_of, arg_of}
use Rattle.flp_lang.specs.Print.{put_items, put_more_items, put_factors, put_more_factors, put_args, put_more_args}
use Rattle.flp_lang.specs.Written.{Writes}
use Rattle.flp_lang.proofs.printer.Printer.+printed_expr.Given as goal

-- the further items from the index on are left
abbrev pub invariant-items-loop-item : goal.invariant-items-loop-item
invariant-items-loop-item l = Writes l.fn.self.text.items (put_items (mirror.items (map item_of l.items))) l.self.text.items (put_more_items (mirror.items (map item_of (drop l.item-index l.more))))

-- the further factors from the index on are left
abbrev pub invariant-factors-loop-expr : goal.invariant-factors-loop-expr
invariant-factors-loop-expr l = Writes l.fn.self.text.items (put_factors (trees (map tree_of l.factors))) l.self.text.items (put_more_factors (trees (map tree_of (drop l.expr-index l.more))))

-- the further arguments from the index on are left
abbrev pub invariant-args-loop-arg : goal.invariant-args-loop-arg
invariant-args-loop-arg l = Writes l.fn.self.text.items (put_args (arguments (map arg_of l.args))) l.self.text.items (put_more_args (arguments (map arg_of (drop l.arg-index l.more))))
