use Rattle.std.proofs.Common.{◌+◌, true, drop, map, sym, ◌∙◌}
use Rattle.std.proofs.lemmas.List.{append-nil, drop_all}
use Rattle.flp_syntax.specs.Tree.{statements}
use Rattle.flp_syntax.specs.View.{statement_of, statement_of_Each}
use Rattle.flp_emit.specs.Marks.{marks_of_statement, statement_marks}
use Rattle.flp_emit.proofs.Marking.{marks_next, part_made}
use Rattle.flp_syntax.proofs.Rests.{rest_statements}
use Rattle.flp_emit.proofs.marks.+statements.Goals as goal

pub mark_statements-loop-stmt-preserved : goal.mark_statements-loop-stmt-preserved
mark_statements-loop-stmt-preserved t c =
    marks_next _ (marks_of_statement (statement_of c.stmt-item.result)) (statement_marks (statements (map statement_of (drop (c.loop-stmt.stmt-index + 1) c.args.stmts.now))))
    c.in_ok-mark_statement.ensures (rw (rest_statements _ _ c.stmt-item.result c.loop-stmt-test.true c.stmt-item.is) at c.loop-stmt.invariant)

pub mark_statements-returns : goal.mark_statements-returns
mark_statements-returns t c = sym (append-nil _) ∙ (rw (drop_all _ _ c.loop-stmt-test.false) at c.loop-stmt.invariant)

pub mark_statement-returns-in_ok-mark_statements-in-Each : goal.mark_statement-returns-in_ok-mark_statements-in-Each
mark_statement-returns-in_ok-mark_statements-in-Each t c =
    rw (c.in-Each.is, statement_of_Each, ← c.as_slice.ensures)
    (part_made c.args.marks.now.items (record { shared = true; size = 1 }) (statement_marks (statements (map statement_of c.as_slice.result.now)))
    c.in_ok-place-in-Each.ensures c.in_ok-mark_statements-in-Each.ensures c.end_part.ensures)
