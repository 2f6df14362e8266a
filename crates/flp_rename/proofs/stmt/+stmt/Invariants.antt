use Rattle.std.proofs.Common.{◌≡◌, drop, map}
use Rattle.flp_syntax.specs.Tree.{statements, stmt_on}
use Rattle.flp_syntax.specs.View.{statement_of, names_of}
use Rattle.flp_rename.specs.Renamed.{renamed_statements}
use Rattle.flp_rename.proofs.Fronts.{before}
use Rattle.flp_rename.proofs.stmt.+stmt.Given as goal

-- the copies so far, before those of the statements that are left
abbrev pub invariant-statements-loop-stmt : goal.invariant-statements-loop-stmt
invariant-statements-loop-stmt l =
    before stmt_on (map statement_of l.copy.items) (renamed_statements (names_of l.names) (statements (map statement_of (drop l.stmt-index l.stmts))))
    ≡ renamed_statements (names_of l.names) (statements (map statement_of l.stmts))
