use Rattle.std.proofs.Common.{rules, ◌≡◌, ap, ◌∙◌, map}
use Rattle.flp_syntax.specs.Tree.{each, statements}
use Rattle.flp_syntax.specs.View.{index_of, statement_of, statement_of_Each}
use Rattle.flp_lang.proofs.printer.Printer.+printed_stmt.Goals as goal

pub stmt-returns-in_ok-stmts-in-Each : goal.stmt-returns-in_ok-stmts-in-Each
stmt-returns-in_ok-stmts-in-Each t c =
    let e : statement_of c.args.stmt.now ≡ each c.in-Each.at c.in-Each.name (index_of c.in-Each.from) (index_of c.in-Each.to) (statements (map statement_of c.in-Each.inner)) = ap statement_of c.in-Each.is ∙ statement_of_Each _ _ _ _ _ in
    rw e (search rules)
