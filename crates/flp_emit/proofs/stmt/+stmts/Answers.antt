use Rattle.std.proofs.Common.{true, rules}
use Rattle.std.proofs.lemmas.List.{drop_all}
use Rattle.flp_syntax.specs.declared.syntax.Stmt.{the_lemmas}
use Rattle.flp_syntax.specs.View.{program_of, scope_of, tree_of, statement_of_Check, statement_of_Out, statement_of_Each}
use Rattle.flp_meaning.specs.Meaning.{join_results, no_results}
use Rattle.flp_emit.proofs.Walking.{statement_has_code, statements_behind}
use Rattle.flp_syntax.proofs.Rests.{rest_statements}
use Rattle.flp_syntax.proofs.Turns.{turns_none, turns_next}
use Rattle.flp_emit.proofs.Adding.{extends_trans, ready_later, adds_then, adds_none}
use Rattle.flp_meaning.proofs.LinearLemmas.{linear_weaker}
use Rattle.flp_emit.specs.Code.{read_by}
use Rattle.flp_emit.proofs.PlainRuns.{out_is}
use Rattle.flp_emit.proofs.Listing.{performed_check, performed_out, performed_law, performed_law_none}
use Rattle.flp_emit.proofs.stmt.+stmts.Goals as goal

pub perform-loop-stmt-preserved : goal.perform-loop-stmt-preserved
perform-loop-stmt-preserved t c =
    record {
      code = statements_behind (rest_statements _ _ c.stmt-item.result c.loop-stmt-test.true c.stmt-item.is) c.behind_first-marks.ensures c.loop-stmt.invariant.code;
      extends = extends_trans c.loop-stmt.invariant.extends c.in_ok-perform_one.ensures.extends;
      leads =
          λ after done h.
          c.loop-stmt.invariant.leads after done
          (rw (rest_statements _ _ c.stmt-item.result c.loop-stmt-test.true c.stmt-item.is)
          (adds_then join_results performed_law c.in_ok-perform_one.ensures h));
    }

pub perform-perform_one-requires : goal.perform-perform_one-requires
perform-perform_one-requires t c = (
  search (rules, the_lemmas),
  (
    ready_later c.requires.ready c.loop-stmt.invariant.extends,
    statement_has_code (rest_statements _ _ c.stmt-item.result c.loop-stmt-test.true c.stmt-item.is) c.loop-stmt.invariant.code,
  ),
)

pub perform-returns : goal.perform-returns
perform-returns t c =
    c.loop-stmt.invariant.leads _ _ (rw (drop_all _ _ c.loop-stmt-test.false) (adds_none _ _ no_results performed_law_none))

pub perform_turns-perform-requires : goal.perform_turns-perform-requires
perform_turns-perform-requires t c = (
  search (rules, the_lemmas),
  (
    ready_later c.requires.ready c.loop-turn.invariant.extends,
    record { fits = search rules; linear = c.requires.linear; marks = c.inside_first-marks.ensures true _ c.requires.marks },
  ),
)

pub perform_turns-loop-turn-preserved : goal.perform_turns-loop-turn-preserved
perform_turns-loop-turn-preserved t c =
    let turn = rw (c.deref.ensures.value, c.in_ok-enter.ensures) at c.in_ok-perform.ensures in
    record {
      extends = extends_trans c.loop-turn.invariant.extends c.in_ok-perform.ensures.extends;
      leads =
          λ after done h.
          c.loop-turn.invariant.leads after done
          (rw (turns_next _ _ c.loop-turn-test.true) (adds_then join_results performed_law turn h));
    }

pub perform_turns-returns : goal.perform_turns-returns
perform_turns-returns t c =
    c.loop-turn.invariant.leads _ _ (rw (turns_none _ _ c.loop-turn-test.false) (adds_none _ _ no_results performed_law_none))

pub perform_one-perform_turns-requires : goal.perform_one-perform_turns-requires
perform_one-perform_turns-requires t c = (
  search (rules, the_lemmas),
  (
    c.requires.ready,
    (
      rw (c.turns_of-over.ensures.from, c.turns_of-over.ensures.to, c.turns_of-over.ensures.name, c.as_slice.ensures)
          (rw (c.in-Each.is, statement_of_Each) at c.requires.code.fits).turns,
      (
        rw c.as_slice.ensures (rw (c.in-Each.is, statement_of_Each) at c.requires.code.linear),
        rw c.as_slice.ensures (rw (c.in-Each.is, statement_of_Each) at c.requires.code.marks),
      ),
    ),
  ),
)

pub perform_one-returns-in_ok-push-in-Check : goal.perform_one-returns-in_ok-push-in-Check
perform_one-returns-in_ok-push-in-Check t c =
    rw (c.in-Check.is, statement_of_Check, c.in_ok-push-in-Check.ensures.ok, c.deref.ensures.value)
    (performed_check c.in_ok-form-in-Check.ensures)

pub perform_one-form_of-requires-clause-code : goal.perform_one-form_of-requires-clause-code
perform_one-form_of-requires-clause-code t c = record {
  fits = rw (c.in-Check.is, statement_of_Check) at c.requires.code.fits;
  linear = rw (c.in-Check.is, statement_of_Check) at c.requires.code.linear;
  marks = rw (c.in-Check.is, statement_of_Check) at c.requires.code.marks;
}

-- what is linear in an out is linear anywhere
pub perform_one-form_of-requires-in-Out-clause-code : goal.perform_one-form_of-requires-in-Out-clause-code
perform_one-form_of-requires-in-Out-clause-code t c = record {
  fits = rw (c.in-Out.is, statement_of_Out) at c.requires.code.fits;
  linear = linear_weaker (tree_of c.in-Out.expr) (rw (c.in-Out.is, statement_of_Out) at c.requires.code.linear).1;
  marks = rw (c.in-Out.is, statement_of_Out) at c.requires.code.marks;
}

pub perform_one-returns-in_ok-push-in-Out : goal.perform_one-returns-in_ok-push-in-Out
perform_one-returns-in_ok-push-in-Out t c =
    let linear = rw (c.in-Out.is, statement_of_Out) at c.requires.code.linear in
    rw (c.in-Out.is, statement_of_Out, c.in_ok-push-in-Out.ensures.ok, c.deref-in-Out.ensures.value)
    (performed_out (rw linear.0 at c.in_ok-form-in-Out.ensures)
    (λ joint share n.
    (out_is (program_of c.args.place.body.now).gadgets (read_by joint share) (scope_of c.args.place.scope.now) (tree_of c.in-Out.expr) linear.1).silent n))

pub perform_one-returns-in-Each : goal.perform_one-returns-in-Each
perform_one-returns-in-Each t c =
    rw (c.in-Each.is, statement_of_Each, ← c.turns_of-over.ensures.from, ← c.turns_of-over.ensures.to, ← c.turns_of-over.ensures.name, ← c.as_slice.ensures)
    c.perform_turns.ensures
