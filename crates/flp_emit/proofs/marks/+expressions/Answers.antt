use Rattle.std.proofs.Common.{◌+◌, true, drop, map, sym, ◌∙◌}
use Rattle.std.proofs.lemmas.List.{append-nil, drop_all}
use Rattle.flp_syntax.specs.Tree.{items, trees, arguments}
use Rattle.flp_syntax.specs.View.{tree_of, item_of, arg_of, arg_of_Each, tree_of_Number, tree_of_Var, tree_of_Joint, tree_of_Meas, tree_of_MeasOrZero}
use Rattle.flp_emit.specs.Marks.{marks_of, marks_of_argument, item_marks, factor_marks, argument_marks}
use Rattle.flp_emit.proofs.Marking.{marks_next, part_made}
use Rattle.flp_syntax.proofs.Rests.{rest_items, rest_trees, rest_args}
use Rattle.flp_emit.proofs.marks.+expressions.Goals as goal

pub mark_items-loop-item-preserved : goal.mark_items-loop-item-preserved
mark_items-loop-item-preserved t c =
    marks_next _ (marks_of (tree_of c.item-item.result.expr)) (item_marks (items (map item_of (drop (c.loop-item.item-index + 1) c.args.list.now))))
    c.in_ok-mark_expression.ensures (rw (rest_items _ _ c.item-item.result c.loop-item-test.true c.item-item.is) at c.loop-item.invariant)

pub mark_items-returns : goal.mark_items-returns
mark_items-returns t c = sym (append-nil _) ∙ (rw (drop_all _ _ c.loop-item-test.false) at c.loop-item.invariant)

pub mark_factors-loop-factor-preserved : goal.mark_factors-loop-factor-preserved
mark_factors-loop-factor-preserved t c =
    marks_next _ (marks_of (tree_of c.factor-item.result)) (factor_marks (trees (map tree_of (drop (c.loop-factor.factor-index + 1) c.args.factors.now))))
    c.in_ok-mark_expression.ensures (rw (rest_trees _ _ c.factor-item.result c.loop-factor-test.true c.factor-item.is) at c.loop-factor.invariant)

pub mark_factors-returns : goal.mark_factors-returns
mark_factors-returns t c = sym (append-nil _) ∙ (rw (drop_all _ _ c.loop-factor-test.false) at c.loop-factor.invariant)

pub mark_arguments-loop-arg-preserved : goal.mark_arguments-loop-arg-preserved
mark_arguments-loop-arg-preserved t c =
    marks_next _ (marks_of_argument (arg_of c.arg-item.result)) (argument_marks (arguments (map arg_of (drop (c.loop-arg.arg-index + 1) c.args.args.now))))
    c.in_ok-mark_argument.ensures (rw (rest_args _ _ c.arg-item.result c.loop-arg-test.true c.arg-item.is) at c.loop-arg.invariant)

pub mark_arguments-returns : goal.mark_arguments-returns
mark_arguments-returns t c = sym (append-nil _) ∙ (rw (drop_all _ _ c.loop-arg-test.false) at c.loop-arg.invariant)

pub mark_inside-returns-in-Number : goal.mark_inside-returns-in-Number
mark_inside-returns-in-Number t c = rw (c.in-Number.is, tree_of_Number) (sym (append-nil _))

pub mark_inside-returns-in-Var : goal.mark_inside-returns-in-Var
mark_inside-returns-in-Var t c = rw (c.in-Var.is, tree_of_Var) (sym (append-nil _))

pub mark_inside-returns-in-Joint : goal.mark_inside-returns-in-Joint
mark_inside-returns-in-Joint t c = rw (c.in-Joint.is, tree_of_Joint) (sym (append-nil _))

pub mark_inside-returns-in-Meas : goal.mark_inside-returns-in-Meas
mark_inside-returns-in-Meas t c = rw (c.in-Meas.is, tree_of_Meas) (sym (append-nil _))

pub mark_inside-returns-in-MeasOrZero : goal.mark_inside-returns-in-MeasOrZero
mark_inside-returns-in-MeasOrZero t c = rw (c.in-MeasOrZero.is, tree_of_MeasOrZero) (sym (append-nil _))

pub mark_argument-returns-in_ok-mark_arguments-in-Each : goal.mark_argument-returns-in_ok-mark_arguments-in-Each
mark_argument-returns-in_ok-mark_arguments-in-Each t c =
    rw (c.in-Each.is, arg_of_Each, ← c.as_slice.ensures)
    (part_made c.args.marks.now.items (record { shared = true; size = 1 }) (argument_marks (arguments (map arg_of c.as_slice.result.now)))
    c.in_ok-place-in-Each.ensures c.in_ok-mark_arguments-in-Each.ensures c.end_part.ensures)
