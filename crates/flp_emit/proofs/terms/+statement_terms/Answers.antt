use Rattle.std.proofs.Common.{true, map, rules}
use Rattle.flp_syntax.specs.declared.syntax.Stmt.{the_lemmas}
use Rattle.flp_syntax.specs.Tree.{statements}
use Rattle.flp_syntax.specs.Scope.{inside}
use Rattle.flp_syntax.specs.View.{tree_of, statement_of, statement_of_Out, statement_of_Each, scope_of}
use Rattle.flp_syntax.proofs.Rests.{rest_statements}
use Rattle.flp_meaning.specs.Terms.{statement_terms, terms_of_statements}
use Rattle.flp_meaning.proofs.LinearLemmas.{linear_weaker}
use Rattle.flp_emit.proofs.Walking.{statement_has_code, statements_behind}
use Rattle.flp_emit.proofs.Counting.{count_next, turn_next}
use Rattle.flp_emit.proofs.terms.+statement_terms.Goals as goal

pub statements_in_turns-terms_of_statements-requires : goal.statements_in_turns-terms_of_statements-requires
statements_in_turns-terms_of_statements-requires t c = (
  search (rules, the_lemmas),
  record { fits = search rules; linear = c.requires.linear; marks = c.inside_first-marks.ensures true _ c.requires.marks },
)

pub statements_in_turns-loop-turn-preserved : goal.statements_in_turns-loop-turn-preserved
statements_in_turns-loop-turn-preserved t c =
    turn_next (λ turn. terms_of_statements c.args.place.body.now.meas (inside (scope_of c.args.place.scope.now) c.args.over.name.now turn) (statements (map statement_of c.args.inner.now)))
    c.loop-turn.turn c.args.over.to c.loop-turn-test.true c.loop-turn.invariant
    (rw (c.deref.ensures.value, c.in_ok-enter.ensures) at c.in_ok-terms.ensures) c.saturating_add-count.ensures

pub terms_of_statement-statements_in_turns-requires : goal.terms_of_statement-statements_in_turns-requires
terms_of_statement-statements_in_turns-requires t c = (
  search (rules, the_lemmas),
  (
    rw (c.turns_of.ensures.from, c.turns_of.ensures.to, c.turns_of.ensures.name, c.as_slice-inner.ensures)
        (rw (c.in-Each.is, statement_of_Each) at c.requires.fits).turns,
    (
      rw c.as_slice-inner.ensures (rw (c.in-Each.is, statement_of_Each) at c.requires.linear),
      rw c.as_slice-inner.ensures (rw (c.in-Each.is, statement_of_Each) at c.requires.marks),
    ),
  ),
)

pub terms_of_statements-terms_of_statement-requires : goal.terms_of_statements-terms_of_statement-requires
terms_of_statements-terms_of_statement-requires t c = (search (rules, the_lemmas), statement_has_code (rest_statements _ _ c.stmt-item.result c.loop-stmt-test.true c.stmt-item.is) c.loop-stmt.invariant.code)

pub terms_of_statements-loop-stmt-preserved : goal.terms_of_statements-loop-stmt-preserved
terms_of_statements-loop-stmt-preserved t c =
    let rest = rest_statements _ _ c.stmt-item.result c.loop-stmt-test.true c.stmt-item.is in
    record {
      code = statements_behind rest c.behind_first-marks.ensures c.loop-stmt.invariant.code;
      count = count_next (statement_terms c.args.place.body.now.meas (scope_of c.args.place.scope.now) (statement_of c.stmt-item.result)) (rw rest at c.loop-stmt.invariant.count) c.in_ok-terms.ensures c.saturating_add-count.ensures;
    }

-- what is linear in an out is linear anywhere
pub terms_of_statement-terms_of_expression-requires-in-Out : goal.terms_of_statement-terms_of_expression-requires-in-Out
terms_of_statement-terms_of_expression-requires-in-Out t c = record {
  fits = rw (c.in-Out.is, statement_of_Out) at c.requires.fits;
  linear = linear_weaker (tree_of c.in-Out.expr) (rw (c.in-Out.is, statement_of_Out) at c.requires.linear).1;
  marks = rw (c.in-Out.is, statement_of_Out) at c.requires.marks;
}
