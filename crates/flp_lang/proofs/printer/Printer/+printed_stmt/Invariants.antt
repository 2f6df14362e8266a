use Rattle.std.proofs.Common.{drop, map}
use Rattle.flp_syntax.specs.Tree.{statements}
use Rattle.flp_syntax.specs.View.{statement_of}
use Rattle.flp_lang.specs.Print.{put_stmts}
use Rattle.flp_lang.specs.Written.{Writes}
use Rattle.flp_lang.proofs.printer.Printer.+printed_stmt.Given as goal

-- the statements from the index on are left
abbrev pub invariant-stmts-loop-stmt : goal.invariant-stmts-loop-stmt
invariant-stmts-loop-stmt l = Writes l.fn.self.text.items (put_stmts (statements (map statement_of l.stmts))) l.self.text.items (put_stmts (statements (map statement_of (drop l.stmt-index l.stmts))))
