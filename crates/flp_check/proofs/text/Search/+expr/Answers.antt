use Rattle.flp_syntax.specs.View.{tree_of_Number, tree_of_Var, tree_of_Joint, tree_of_Meas, tree_of_MeasOrZero, tree_of_Sum, tree_of_Call, tree_of_Add, tree_of_Mul, tree_of_Pow, arg_of_One, arg_of_Each}
use Rattle.flp_syntax.proofs.Rests.{rest_items, rest_trees, rest_args}
use Rattle.flp_check.proofs.Finding.{finds_none, finds_more}
use Rattle.flp_check.proofs.text.Search.+expr.Goals as goal

pub arg-returns-in-One : goal.arg-returns-in-One
arg-returns-in-One t c = rw (c.in-One.is, arg_of_One) c.expr.ensures

pub arg-returns-in-Each : goal.arg-returns-in-Each
arg-returns-in-Each t c = rw (c.in-Each.is, arg_of_Each, ← c.as_slice.ensures) c.each_arg.ensures

pub args-loop-arg-preserved : goal.args-loop-arg-preserved
args-loop-arg-preserved t c = λ after h. c.loop-arg.invariant after (rw (rest_args _ _ c.arg-item.result c.loop-arg-test.true c.arg-item.is) (finds_more c.in_ok-arg.ensures h))

pub each_arg-returns : goal.each_arg-returns
each_arg-returns t c =
    let h = rw (c.deref.ensures.value, c.in_ok-names.ensures, c.as_slice.ensures) at c.in_ok-args.ensures in
    finds_more c.range.ensures h

pub sum-returns : goal.sum-returns
sum-returns t c =
    let h = rw (c.deref.ensures.value, c.in_ok-names.ensures, c.as_slice.ensures) at c.in_ok-expr.ensures in
    finds_more c.range.ensures h

pub pow-returns : goal.pow-returns
pow-returns t c =
    let h = rw c.is_shared.ensures at c.note.ensures in
    finds_more h (finds_more c.in_ok-expr.ensures c.index.ensures)

pub expr-returns-in-Number : goal.expr-returns-in-Number
expr-returns-in-Number t c = rw (c.in-Number.is, tree_of_Number) (finds_none _)

pub expr-returns-in-Var : goal.expr-returns-in-Var
expr-returns-in-Var t c = rw (c.in-Var.is, tree_of_Var) c.note_unbound.ensures

pub expr-returns-in-Joint : goal.expr-returns-in-Joint
expr-returns-in-Joint t c = rw (c.in-Joint.is, tree_of_Joint) (finds_more c.note.ensures c.index.ensures)

pub expr-returns-in-Meas : goal.expr-returns-in-Meas
expr-returns-in-Meas t c = rw (c.in-Meas.is, tree_of_Meas) c.index-in-Meas.ensures

pub expr-returns-in-MeasOrZero : goal.expr-returns-in-MeasOrZero
expr-returns-in-MeasOrZero t c = rw (c.in-MeasOrZero.is, tree_of_MeasOrZero) c.index-in-MeasOrZero.ensures

pub expr-returns-in-Sum : goal.expr-returns-in-Sum
expr-returns-in-Sum t c = rw (c.in-Sum.is, tree_of_Sum, ← c.deref.ensures) c.sum.ensures

pub expr-returns-in-Call : goal.expr-returns-in-Call
expr-returns-in-Call t c = rw (c.in-Call.is, tree_of_Call, ← c.as_slice.ensures) c.call.ensures

pub call-returns : goal.call-returns
call-returns t c = finds_more c.note_unknown.ensures (finds_more c.note.ensures c.in_ok-args.ensures)

pub expr-returns-in-Add : goal.expr-returns-in-Add
expr-returns-in-Add t c =
    let h = rw c.is_mixed-mixed.ensures at c.items.ensures in
    rw (c.in-Add.is, tree_of_Add, ← c.as_slice-items.ensures) h

pub expr-returns-in-Mul : goal.expr-returns-in-Mul
expr-returns-in-Mul t c = rw (c.in-Mul.is, tree_of_Mul, ← c.as_slice-in-Mul.ensures) c.factors.ensures

pub expr-returns-in-Pow : goal.expr-returns-in-Pow
expr-returns-in-Pow t c = rw (c.in-Pow.is, tree_of_Pow, ← c.deref-in-Pow.ensures) c.pow.ensures

pub factors-loop-factor-preserved : goal.factors-loop-factor-preserved
factors-loop-factor-preserved t c = λ after h.
    let noted = rw (c.is_second.ensures, c.is_shared-shared.ensures, c.tree_at.ensures) at c.note.ensures in
    let more = rw (c.is_behind-behind.ensures, c.is_shared-shared.ensures) at h in
    c.loop-factor.invariant after (rw (rest_trees _ _ c.factor-item.result c.loop-factor-test.true c.factor-item.is) (finds_more noted (finds_more c.in_ok-expr.ensures more)))

pub items-loop-item-preserved : goal.items-loop-item-preserved
items-loop-item-preserved t c = λ after h.
    let noted = rw (c.is_stray.ensures, c.tree_at.ensures) at c.note.ensures in
    c.loop-item.invariant after (rw (rest_items _ _ c.item-item.result c.loop-item-test.true c.item-item.is) (finds_more noted (finds_more c.in_ok-expr.ensures h)))
