use Rattle.std.proofs.Common.{ℕ, List, map, refl, arith}
use Rattle.flp_syntax.specs.Tree.{arguments}
use Rattle.flp_syntax.specs.Scope.{inside}
use Rattle.flp_syntax.specs.View.{program_of, tree_of, arg_of, tree_of_Number, tree_of_Var, tree_of_Joint, tree_of_Meas, tree_of_MeasOrZero, tree_of_Sum, tree_of_Call, tree_of_Add, tree_of_Mul, tree_of_Pow, arg_of_One, arg_of_Each}
use Rattle.flp_check.specs.Events.{Event, tree_events, args_events}
use Rattle.flp_syntax.specs.Scope.{args_count}
use Rattle.flp_syntax.specs.View.{scope_of}
use Rattle.flp_syntax.proofs.Rests.{rest_items, rest_trees, rest_args}
use Rattle.flp_check.proofs.Walking.{reaches_more, stops_front, stops_back, walks_more, handed_on, leads_on, leads_stop, leads_turn, leads_turn_stop}
use Rattle.flp_check.proofs.Nodes.{tree_stops}
use Rattle.flp_check.proofs.Meeting.{reaches_visits, tree_visits}
use Rattle.flp_check.proofs.Turns.{scope_inside, take_front, count_next}
use Rattle.flp_check.proofs.unroll.Unroller.+expr.Goals as goal

pub expr-returns-in_err-visit : goal.expr-returns-in_err-visit
expr-returns-in_err-visit t c = handed_on _ _ c.from_residual.ensures (tree_stops _ _ _ c.in_err-visit.ensures)

pub expr-returns-in-Number : goal.expr-returns-in-Number
expr-returns-in-Number t c = rw (c.in-Number.is, tree_of_Number) c.in_ok-visit.ensures

pub expr-returns-in-Var : goal.expr-returns-in-Var
expr-returns-in-Var t c = rw (c.in-Var.is, tree_of_Var) c.in_ok-visit.ensures

pub expr-returns-in_err-place-in-Joint : goal.expr-returns-in_err-place-in-Joint
expr-returns-in_err-place-in-Joint t c = handed_on _ _ c.from_residual-in_err-place-in-Joint.ensures (rw (c.in-Joint.is, tree_of_Joint) (stops_back c.in_ok-visit.ensures (stops_front _ c.in_err-place-in-Joint.ensures.walked)))

pub expr-returns-in_ok-place-in-Joint : goal.expr-returns-in_ok-place-in-Joint
expr-returns-in_ok-place-in-Joint t c =
    let h = rw c.in_ok-place-in-Joint.ensures.value at c.in_words.ensures in
    rw (c.in-Joint.is, tree_of_Joint) (walks_more _ _ _ c.in_ok-visit.ensures (walks_more _ _ _ c.in_ok-place-in-Joint.ensures.walked (h _)))

pub expr-returns-in_err-place-in-Meas : goal.expr-returns-in_err-place-in-Meas
expr-returns-in_err-place-in-Meas t c = handed_on _ _ c.from_residual-in_err-place-in-Meas.ensures (rw (c.in-Meas.is, tree_of_Meas) (stops_back c.in_ok-visit.ensures (stops_front _ c.in_err-place-in-Meas.ensures.walked)))

pub expr-returns-in_ok-place-in-Meas : goal.expr-returns-in_ok-place-in-Meas
expr-returns-in_ok-place-in-Meas t c =
    let h = rw c.in_ok-place-in-Meas.ensures.value at c.in_words-in-Meas.ensures in
    rw (c.in-Meas.is, tree_of_Meas) (walks_more _ _ _ c.in_ok-visit.ensures (walks_more _ _ _ c.in_ok-place-in-Meas.ensures.walked (h _)))

pub expr-returns-in_err-index-in-MeasOrZero : goal.expr-returns-in_err-index-in-MeasOrZero
expr-returns-in_err-index-in-MeasOrZero t c = handed_on _ _ c.from_residual-in_err-index-in-MeasOrZero.ensures (rw (c.in-MeasOrZero.is, tree_of_MeasOrZero) (stops_back c.in_ok-visit.ensures c.in_err-index-in-MeasOrZero.ensures.walked))

pub expr-returns-in_ok-index-in-MeasOrZero : goal.expr-returns-in_ok-index-in-MeasOrZero
expr-returns-in_ok-index-in-MeasOrZero t c = rw (c.in-MeasOrZero.is, tree_of_MeasOrZero) (reaches_more c.in_ok-visit.ensures c.in_ok-index-in-MeasOrZero.ensures.walked)

pub expr-returns-in-Sum : goal.expr-returns-in-Sum
expr-returns-in-Sum t c = rw (c.in-Sum.is, tree_of_Sum, ← c.deref.ensures) (walks_more _ _ _ c.in_ok-visit.ensures c.sum.ensures)

pub expr-returns-in-Call : goal.expr-returns-in-Call
expr-returns-in-Call t c = rw (c.in-Call.is, tree_of_Call, ← c.as_slice.ensures) (walks_more _ _ _ c.in_ok-visit.ensures c.call.ensures)

pub expr-returns-in-Add : goal.expr-returns-in-Add
expr-returns-in-Add t c = rw (c.in-Add.is, tree_of_Add, ← c.as_slice-in-Add.ensures) (walks_more _ _ _ c.in_ok-visit.ensures c.items.ensures)

pub expr-returns-in-Mul : goal.expr-returns-in-Mul
expr-returns-in-Mul t c = rw (c.in-Mul.is, tree_of_Mul, ← c.as_slice-in-Mul.ensures) (walks_more _ _ _ c.in_ok-visit.ensures c.factors.ensures)

pub expr-returns-in-Pow : goal.expr-returns-in-Pow
expr-returns-in-Pow t c = rw (c.in-Pow.is, tree_of_Pow, ← c.deref-in-Pow.ensures) (walks_more _ _ _ c.in_ok-visit.ensures c.pow.ensures)

pub pow-returns-in_err-expr : goal.pow-returns-in_err-expr
pow-returns-in_err-expr t c = handed_on _ _ c.from_residual.ensures (stops_front _ c.in_err-expr.ensures)

pub pow-returns-in_err-index : goal.pow-returns-in_err-index
pow-returns-in_err-index t c = handed_on _ _ c.from_residual-in_err-index.ensures (stops_back c.in_ok-expr.ensures c.in_err-index.ensures.walked)

pub pow-returns : goal.pow-returns
pow-returns t c = reaches_more c.in_ok-expr.ensures c.in_ok-index.ensures.walked

pub sum-returns-in_err-bounds : goal.sum-returns-in_err-bounds
sum-returns-in_err-bounds t c = handed_on _ _ c.from_residual.ensures (stops_front _ c.in_err-bounds.ensures.walked)

pub sum-returns : goal.sum-returns
sum-returns t c =
    let h = rw (c.in_ok-bounds.ensures.value.0, c.in_ok-bounds.ensures.value.1) at c.sum_turns.ensures in
    walks_more _ _ _ c.in_ok-bounds.ensures.walked h

pub call-returns-in_err-count : goal.call-returns-in_err-count
call-returns-in_err-count t c = handed_on _ _ c.from_residual.ensures (stops_front _ c.in_err-count.ensures.walked)

pub call-returns : goal.call-returns
call-returns t c =
    let h = rw c.in_ok-count.ensures.count at c.gadget.ensures in
    walks_more _ _ _ c.in_ok-count.ensures.walked h

pub items-loop-item-preserved : goal.items-loop-item-preserved
items-loop-item-preserved t c =
    let left = rw (rest_items _ _ c.item-item.result c.loop-item-test.true c.item-item.is) at c.loop-item.invariant in
    leads_on left c.in_ok-expr.ensures

pub items-returns-in_err-expr : goal.items-returns-in_err-expr
items-returns-in_err-expr t c =
    let left = rw (rest_items _ _ c.item-item.result c.loop-item-test.true c.item-item.is) at c.loop-item.invariant in
    handed_on _ _ c.from_residual.ensures (leads_stop left (stops_front _ c.in_err-expr.ensures))

pub factors-loop-factor-preserved : goal.factors-loop-factor-preserved
factors-loop-factor-preserved t c =
    let left = rw (rest_trees _ _ c.factor-item.result c.loop-factor-test.true c.factor-item.is) at c.loop-factor.invariant in
    leads_on left c.in_ok-expr.ensures

pub factors-returns-in_err-expr : goal.factors-returns-in_err-expr
factors-returns-in_err-expr t c =
    let left = rw (rest_trees _ _ c.factor-item.result c.loop-factor-test.true c.factor-item.is) at c.loop-factor.invariant in
    handed_on _ _ c.from_residual.ensures (leads_stop left (stops_front _ c.in_err-expr.ensures))

pub args-loop-arg-preserved : goal.args-loop-arg-preserved
args-loop-arg-preserved t c =
    let left = rw (rest_args _ _ c.arg-item.result c.loop-arg-test.true c.arg-item.is) at c.loop-arg.invariant.walked in
    let count = rw (rest_args _ _ c.arg-item.result c.loop-arg-test.true c.arg-item.is) at c.loop-arg.invariant.count in
    record {
      walked = leads_on left c.in_ok-more.ensures.walked;
      count = omega (arith, count, c.in_ok-more.ensures.count);
      met = omega (arith, c.loop-arg.invariant.met, c.in_ok-more.ensures.met);
    }

pub args-returns-in_err-more-clause-walked : goal.args-returns-in_err-more-clause-walked
args-returns-in_err-more-clause-walked t c =
    let left = rw (rest_args _ _ c.arg-item.result c.loop-arg-test.true c.arg-item.is) at c.loop-arg.invariant.walked in
    handed_on _ _ c.from_residual.ensures (leads_stop left (stops_front _ c.in_err-more.ensures.walked))

pub arg-returns-in_err-expr-in-One-clause-walked : goal.arg-returns-in_err-expr-in-One-clause-walked
arg-returns-in_err-expr-in-One-clause-walked t c = handed_on _ _ c.from_residual.ensures (rw (c.in-One.is, arg_of_One) c.in_err-expr-in-One.ensures)

pub arg-returns-in_ok-expr-in-One-clause-walked : goal.arg-returns-in_ok-expr-in-One-clause-walked
arg-returns-in_ok-expr-in-One-clause-walked t c = rw (c.in-One.is, arg_of_One) c.in_ok-expr-in-One.ensures

pub arg-returns-in_ok-expr-in-One-clause-count : goal.arg-returns-in_ok-expr-in-One-clause-count
arg-returns-in_ok-expr-in-One-clause-count t c = rw (c.in-One.is, arg_of_One) refl

pub arg-returns-in_ok-expr-in-One-clause-met : goal.arg-returns-in_ok-expr-in-One-clause-met
arg-returns-in_ok-expr-in-One-clause-met t c = tree_visits _ _ _ c.in_ok-expr-in-One.ensures

pub arg-returns-in-Each-clause-walked : goal.arg-returns-in-Each-clause-walked
arg-returns-in-Each-clause-walked t c = rw (c.in-Each.is, arg_of_Each, ← c.as_slice.ensures) c.each_arg.ensures.walked

pub arg-returns-in-Each-clause-count : goal.arg-returns-in-Each-clause-count
arg-returns-in-Each-clause-count t c = rw (c.in-Each.is, arg_of_Each, ← c.as_slice.ensures) c.each_arg.ensures.count

pub each_arg-returns-in_err-bounds-clause-walked : goal.each_arg-returns-in_err-bounds-clause-walked
each_arg-returns-in_err-bounds-clause-walked t c = handed_on _ _ c.from_residual-in_err-bounds.ensures (stops_back c.in_ok-visit.ensures (stops_front _ c.in_err-bounds.ensures.walked))

pub each_arg-returns-in_err-count-clause-walked : goal.each_arg-returns-in_err-count-clause-walked
each_arg-returns-in_err-count-clause-walked t c =
    let h = rw (c.in_ok-bounds.ensures.value.0, c.in_ok-bounds.ensures.value.1) at c.in_err-count.ensures.walked in
    handed_on _ _ c.from_residual-in_err-count.ensures (stops_back c.in_ok-visit.ensures (stops_back c.in_ok-bounds.ensures.walked h))

pub each_arg-returns-clause-walked : goal.each_arg-returns-clause-walked
each_arg-returns-clause-walked t c =
    let h = rw (c.in_ok-bounds.ensures.value.0, c.in_ok-bounds.ensures.value.1) at c.in_ok-count.ensures.walked in
    reaches_more c.in_ok-visit.ensures (reaches_more c.in_ok-bounds.ensures.walked h)

pub each_arg-returns-clause-met : goal.each_arg-returns-clause-met
each_arg-returns-clause-met t c = omega (arith, reaches_visits c.in_ok-visit.ensures, reaches_visits c.in_ok-bounds.ensures.walked, c.in_ok-count.ensures.met)

pub sum_turns-loop-value-preserved : goal.sum_turns-loop-value-preserved
sum_turns-loop-value-preserved t c =
    let f : ℕ → List Event = λ value. tree_events (program_of c.args.self.now.body.now) (inside (scope_of c.args.scope.now) c.args.name.now value) (tree_of c.args.inner.now) in
    let turn = rw (c.deref.ensures.value, c.in_ok-push.ensures.items, c.loop-value.invariant.within, scope_inside, c.as_slice-name.ensures) at c.in_ok-expr.ensures in
    record {
      within = rw (c.truncate.ensures.items, c.in_ok-push.ensures.items, c.loop-value.invariant.within) (take_front _ _);
      walked = leads_turn f _ _ c.loop-value-test.true c.loop-value.invariant.walked turn;
    }

pub sum_turns-returns-in_err-expr : goal.sum_turns-returns-in_err-expr
sum_turns-returns-in_err-expr t c =
    let f : ℕ → List Event = λ value. tree_events (program_of c.args.self.now.body.now) (inside (scope_of c.args.scope.now) c.args.name.now value) (tree_of c.args.inner.now) in
    let turn = rw (c.deref.ensures.value, c.in_ok-push.ensures.items, c.loop-value.invariant.within, scope_inside, c.as_slice-name.ensures) at c.in_err-expr.ensures in
    handed_on _ _ c.from_residual-in_err-expr.ensures (leads_turn_stop f _ _ c.loop-value-test.true c.loop-value.invariant.walked turn)

pub arg_turns-loop-value-preserved : goal.arg_turns-loop-value-preserved
arg_turns-loop-value-preserved t c =
    let f : ℕ → List Event = λ value. args_events (program_of c.args.self.now.body.now) (inside (scope_of c.args.scope.now) c.args.name.now value) (arguments (map arg_of c.args.inner.now)) in
    let g : ℕ → ℕ = λ value. args_count (inside (scope_of c.args.scope.now) c.args.name.now value) (arguments (map arg_of c.args.inner.now)) in
    let turn = rw (c.deref.ensures.value, c.in_ok-push.ensures.items, c.loop-value.invariant.within, scope_inside, c.as_slice-name.ensures) at c.in_ok-more.ensures.walked in
    let more = rw (c.deref.ensures.value, c.in_ok-push.ensures.items, c.loop-value.invariant.within, scope_inside, c.as_slice-name.ensures) at c.in_ok-more.ensures.count in
    record {
      within = rw (c.truncate.ensures.items, c.in_ok-push.ensures.items, c.loop-value.invariant.within) (take_front _ _);
      walked = leads_turn f _ _ c.loop-value-test.true c.loop-value.invariant.walked turn;
      count = omega (arith, c.loop-value.invariant.count, count_next g c.loop-value.value c.args.bounds.1 c.loop-value-test.true, more);
      met = omega (arith, c.loop-value.invariant.met, c.in_ok-more.ensures.met);
    }

pub arg_turns-returns-in_err-more-clause-walked : goal.arg_turns-returns-in_err-more-clause-walked
arg_turns-returns-in_err-more-clause-walked t c =
    let f : ℕ → List Event = λ value. args_events (program_of c.args.self.now.body.now) (inside (scope_of c.args.scope.now) c.args.name.now value) (arguments (map arg_of c.args.inner.now)) in
    let turn = rw (c.deref.ensures.value, c.in_ok-push.ensures.items, c.loop-value.invariant.within, scope_inside, c.as_slice-name.ensures) at c.in_err-more.ensures.walked in
    handed_on _ _ c.from_residual-in_err-more.ensures (leads_turn_stop f _ _ c.loop-value-test.true c.loop-value.invariant.walked turn)
