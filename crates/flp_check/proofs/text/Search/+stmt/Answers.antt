use Rattle.flp_syntax.specs.View.{statement_of_Check, statement_of_Out, statement_of_Each}
use Rattle.flp_syntax.proofs.Rests.{rest_statements}
use Rattle.flp_check.proofs.Finding.{finds_more}
use Rattle.flp_check.proofs.text.Search.+stmt.Goals as goal

pub each-returns : goal.each-returns
each-returns t c =
    let h = rw (c.deref.ensures.value, c.in_ok-within.ensures, c.as_slice.ensures) at c.in_ok-stmts.ensures in
    finds_more c.range.ensures h

pub stmt-returns-in-Check : goal.stmt-returns-in-Check
stmt-returns-in-Check t c = rw (c.in-Check.is, statement_of_Check) c.expr.ensures

pub stmt-returns-in_ok-expr-in-Out : goal.stmt-returns-in_ok-expr-in-Out
stmt-returns-in_ok-expr-in-Out t c =
    let h = rw (c.is_shared.ensures, c.tree_at.ensures) at c.note.ensures in
    rw (c.in-Out.is, statement_of_Out) (finds_more h c.in_ok-expr-in-Out.ensures)

pub stmt-returns-in-Each : goal.stmt-returns-in-Each
stmt-returns-in-Each t c = rw (c.in-Each.is, statement_of_Each, ← c.as_slice.ensures) c.each.ensures

pub stmts-loop-stmt-preserved : goal.stmts-loop-stmt-preserved
stmts-loop-stmt-preserved t c = λ after h. c.loop-stmt.invariant after (rw (rest_statements _ _ c.stmt-item.result c.loop-stmt-test.true c.stmt-item.is) (finds_more c.in_ok-stmt.ensures h))
