use Rattle.std.proofs.Common.{◌≤◌, length, map, ap, arith}
use Rattle.std.proofs.lemmas.List.{at_drop_all}
use Rattle.flp_syntax.specs.Tree.{statements, stmt_on}
use Rattle.flp_syntax.specs.View.{statement_of, names_of}
use Rattle.flp_syntax.proofs.Rests.{rest_statements}
use Rattle.flp_rename.specs.Renamed.{renamed_statements}
use Rattle.flp_rename.proofs.Fronts.{before_next, before_all, before_statements}
use Rattle.flp_rename.proofs.stmt.+stmt.Goals as goal

pub statements-loop-stmt-preserved : goal.statements-loop-stmt-preserved
statements-loop-stmt-preserved t c =
    let item = c.stmt-item.result in
    before_next stmt_on statement_of _ _ _ _ _ _ _ c.in_ok-push.ensures.items (c.in_ok-stmt.ensures) (ap (renamed_statements (names_of c.args.names.now)) (rest_statements _ _ item c.loop-stmt-test.true c.stmt-item.is)) c.loop-stmt.invariant

pub statements-returns : goal.statements-returns
statements-returns t c =
    let none : length c.args.stmts.now ≤ c.loop-stmt.stmt-index = omega (arith, c.loop-stmt-test.false) in
    before_all stmt_on statement_of _ statements before_statements _ _ _ _ c.from_vec.ensures (at_drop_all (λ xs. renamed_statements (names_of c.args.names.now) (statements (map statement_of xs))) c.args.stmts.now c.loop-stmt.stmt-index none) c.loop-stmt.invariant
