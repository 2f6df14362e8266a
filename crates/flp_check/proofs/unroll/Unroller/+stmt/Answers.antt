use Rattle.std.proofs.Common.{ℕ, List, map}
use Rattle.flp_syntax.specs.Tree.{statements}
use Rattle.flp_syntax.specs.Scope.{inside}
use Rattle.flp_syntax.specs.View.{program_of, statement_of, statement_of_Check, statement_of_Out, statement_of_Each}
use Rattle.flp_check.specs.Events.{Event, stmts_events}
use Rattle.flp_syntax.specs.View.{scope_of}
use Rattle.flp_syntax.proofs.Rests.{rest_statements}
use Rattle.flp_check.proofs.Walking.{stops_front, stops_back, walks_more, handed_on, leads_on, leads_stop, leads_turn, leads_turn_stop}
use Rattle.flp_check.proofs.Nodes.{stmt_stops}
use Rattle.flp_check.proofs.Turns.{scope_inside, take_front}
use Rattle.flp_check.proofs.unroll.Unroller.+stmt.Goals as goal

pub stmt-returns-in_err-visit : goal.stmt-returns-in_err-visit
stmt-returns-in_err-visit t c = handed_on _ _ c.from_residual.ensures (stmt_stops _ _ _ c.in_err-visit.ensures)

pub stmt-returns-in_err-check-in-Check : goal.stmt-returns-in_err-check-in-Check
stmt-returns-in_err-check-in-Check t c = handed_on _ _ c.from_residual-in_err-check-in-Check.ensures (rw (c.in-Check.is, statement_of_Check) (stops_back c.in_ok-visit.ensures (stops_front _ c.in_err-check-in-Check.ensures)))

pub stmt-returns-in_err-output-in-Out : goal.stmt-returns-in_err-output-in-Out
stmt-returns-in_err-output-in-Out t c = handed_on _ _ c.from_residual-in_err-output-in-Out.ensures (rw (c.in-Out.is, statement_of_Out) (stops_back c.in_ok-visit.ensures (stops_front _ c.in_err-output-in-Out.ensures)))

pub stmt-returns-in_ok-check-in-Check : goal.stmt-returns-in_ok-check-in-Check
stmt-returns-in_ok-check-in-Check t c = rw (c.in-Check.is, statement_of_Check) (walks_more _ _ _ c.in_ok-visit.ensures (walks_more _ _ _ c.in_ok-check-in-Check.ensures c.expr.ensures))

pub stmt-returns-in_ok-output-in-Out : goal.stmt-returns-in_ok-output-in-Out
stmt-returns-in_ok-output-in-Out t c = rw (c.in-Out.is, statement_of_Out) (walks_more _ _ _ c.in_ok-visit.ensures (walks_more _ _ _ c.in_ok-output-in-Out.ensures c.expr-in-Out.ensures))

pub stmt-returns-in-Each : goal.stmt-returns-in-Each
stmt-returns-in-Each t c = rw (c.in-Each.is, statement_of_Each, ← c.as_slice.ensures) (walks_more _ _ _ c.in_ok-visit.ensures c.each.ensures)

pub each-returns-in_err-bounds : goal.each-returns-in_err-bounds
each-returns-in_err-bounds t c = handed_on _ _ c.from_residual.ensures (stops_front _ c.in_err-bounds.ensures.walked)

pub each-returns : goal.each-returns
each-returns t c =
    let h = rw (c.in_ok-bounds.ensures.value.0, c.in_ok-bounds.ensures.value.1) at c.stmt_turns.ensures in
    walks_more _ _ _ c.in_ok-bounds.ensures.walked h

pub stmts-loop-stmt-preserved : goal.stmts-loop-stmt-preserved
stmts-loop-stmt-preserved t c =
    let left = rw (rest_statements _ _ c.stmt-item.result c.loop-stmt-test.true c.stmt-item.is) at c.loop-stmt.invariant in
    leads_on left c.in_ok-stmt.ensures

pub stmts-returns-in_err-stmt : goal.stmts-returns-in_err-stmt
stmts-returns-in_err-stmt t c =
    let left = rw (rest_statements _ _ c.stmt-item.result c.loop-stmt-test.true c.stmt-item.is) at c.loop-stmt.invariant in
    handed_on _ _ c.from_residual.ensures (leads_stop left (stops_front _ c.in_err-stmt.ensures))

pub stmt_turns-loop-value-preserved : goal.stmt_turns-loop-value-preserved
stmt_turns-loop-value-preserved t c =
    let f : ℕ → List Event = λ value. stmts_events (program_of c.args.self.now.body.now) (inside (scope_of c.args.scope.now) c.args.name.now value) (statements (map statement_of c.args.inner.now)) in
    let turn = rw (c.deref.ensures.value, c.in_ok-push.ensures.items, c.loop-value.invariant.within, scope_inside, c.as_slice-name.ensures) at c.in_ok-stmts.ensures in
    record {
      within = rw (c.truncate.ensures.items, c.in_ok-push.ensures.items, c.loop-value.invariant.within) (take_front _ _);
      walked = leads_turn f _ _ c.loop-value-test.true c.loop-value.invariant.walked turn;
    }

pub stmt_turns-returns-in_err-stmts : goal.stmt_turns-returns-in_err-stmts
stmt_turns-returns-in_err-stmts t c =
    let f : ℕ → List Event = λ value. stmts_events (program_of c.args.self.now.body.now) (inside (scope_of c.args.scope.now) c.args.name.now value) (statements (map statement_of c.args.inner.now)) in
    let turn = rw (c.deref.ensures.value, c.in_ok-push.ensures.items, c.loop-value.invariant.within, scope_inside, c.as_slice-name.ensures) at c.in_err-stmts.ensures in
    handed_on _ _ c.from_residual-in_err-stmts.ensures (leads_turn_stop f _ _ c.loop-value-test.true c.loop-value.invariant.walked turn)
