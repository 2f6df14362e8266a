use Rattle.std.proofs.Common.{◌≡◌, ◌++◌, drop, map}
use Rattle.flp_syntax.specs.Tree.{statements}
use Rattle.flp_syntax.specs.View.{statement_of}
use Rattle.flp_emit.specs.Marks.{statement_marks}
use Rattle.flp_emit.proofs.marks.+statements.Given as goal

-- with the marks of the statements from here on they are all
abbrev pub invariant-mark_statements-loop-stmt : goal.invariant-mark_statements-loop-stmt
invariant-mark_statements-loop-stmt l =
    l.marks.items ++ statement_marks (statements (map statement_of (drop l.stmt-index l.stmts)))
    ≡ l.fn.marks.items ++ statement_marks (statements (map statement_of l.stmts))
