use Rattle.std.proofs.Common.{drop, map}
use Rattle.std.specs.List.{sum_by}
use Rattle.flp_syntax.specs.Tree.{statements}
use Rattle.flp_syntax.specs.Scope.{inside, turns}
use Rattle.flp_syntax.specs.View.{statement_of, program_of, scope_of}
use Rattle.flp_meaning.specs.Terms.{terms_of_statements}
use Rattle.flp_emit.specs.Walking.{StatementsHaveCode}
use Rattle.flp_emit.proofs.Counting.{CountLeft}
use Rattle.flp_emit.proofs.terms.+statement_terms.Given as goal

-- what was counted and what is left are all
abbrev pub invariant-terms_of_statements-loop-stmt : goal.invariant-terms_of_statements-loop-stmt
invariant-terms_of_statements-loop-stmt l = record {
  code : StatementsHaveCode (program_of l.place.body.now) (scope_of l.place.scope.now) l.marks (statements (map statement_of (drop l.stmt-index l.stmts)));
  count :
      CountLeft l.count (terms_of_statements l.place.body.now.meas (scope_of l.place.scope.now) (statements (map statement_of (drop l.stmt-index l.stmts))))
      (terms_of_statements l.place.body.now.meas (scope_of l.place.scope.now) (statements (map statement_of l.stmts)));
}

abbrev pub invariant-statements_in_turns-loop-turn : goal.invariant-statements_in_turns-loop-turn
invariant-statements_in_turns-loop-turn l =
    CountLeft l.count
    (sum_by (λ turn. terms_of_statements l.place.body.now.meas (inside (scope_of l.place.scope.now) l.over.name.now turn) (statements (map statement_of l.inner))) (turns l.turn l.over.to))
    (sum_by (λ turn. terms_of_statements l.place.body.now.meas (inside (scope_of l.place.scope.now) l.over.name.now turn) (statements (map statement_of l.inner))) (turns l.over.from l.over.to))
