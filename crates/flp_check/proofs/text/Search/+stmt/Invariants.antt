use Rattle.std.proofs.Common.{Option, map, drop}
use Rattle.flp_syntax.specs.Tree.{statements}
use Rattle.flp_syntax.specs.View.{statement_of, declaration_of}
use Rattle.flp_check.specs.declared.flaw.Flaw.{Flaw}
use Rattle.flp_syntax.specs.View.{names_of}
use Rattle.flp_check.specs.Flaws.{stmts_flaws, Finds}
use Rattle.flp_check.proofs.text.Search.+stmt.Given as goal

-- what is found from here on is found in all
abbrev pub invariant-stmts-loop-stmt : goal.invariant-stmts-loop-stmt
invariant-stmts-loop-stmt l =
    (after : Option Flaw) → Finds l.found.first (stmts_flaws (map declaration_of l.self.gadgets.now) (names_of l.names) (statements (map statement_of (drop l.stmt-index l.stmts)))) after
    → Finds l.fn.found.first (stmts_flaws (map declaration_of l.self.gadgets.now) (names_of l.names) (statements (map statement_of l.stmts))) after
