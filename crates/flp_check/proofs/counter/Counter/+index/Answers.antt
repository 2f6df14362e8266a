use Rattle.flp_syntax.specs.View.{index_of_Number, index_of_Var, index_of_Add, index_of_Mul}
use Rattle.flp_syntax.proofs.Rests.{rest_indices, rest_index_items}
use Rattle.flp_check.proofs.Walking.{walks_more, handed_on, leads_on, leads_stop, stops_front, stops_back}
use Rattle.flp_check.proofs.Nodes.{index_stops}
use Rattle.flp_check.proofs.counter.Counter.+index.Goals as goal

pub index-returns-in_err-visit-clause-walked : goal.index-returns-in_err-visit-clause-walked
index-returns-in_err-visit-clause-walked t c = handed_on _ _ c.from_residual.ensures (index_stops _ _ c.in_err-visit.ensures)

pub index-returns-in-Number-clause-walked : goal.index-returns-in-Number-clause-walked
index-returns-in-Number-clause-walked t c = rw (c.in-Number.is, index_of_Number) (walks_more _ _ _ c.in_ok-visit.ensures (c.in_range.ensures.walked _))

pub index-returns-in-Number-clause-value : goal.index-returns-in-Number-clause-value
index-returns-in-Number-clause-value t c = rw (c.in-Number.is, index_of_Number) c.in_range.ensures.value

pub index-returns-in-Var-clause-walked : goal.index-returns-in-Var-clause-walked
index-returns-in-Var-clause-walked t c =
    let h = rw (c.bound_value.ensures, c.as_slice.ensures) at c.in_range-in-Var.ensures.walked in
    rw (c.in-Var.is, index_of_Var) (walks_more _ _ _ c.in_ok-visit.ensures (h _))

pub index-returns-in-Var-clause-value : goal.index-returns-in-Var-clause-value
index-returns-in-Var-clause-value t c =
    let h = rw (c.bound_value.ensures, c.as_slice.ensures) at c.in_range-in-Var.ensures.value in
    rw (c.in-Var.is, index_of_Var) h

pub index-returns-in-Add-clause-walked : goal.index-returns-in-Add-clause-walked
index-returns-in-Add-clause-walked t c = rw (c.in-Add.is, index_of_Add, ← c.as_slice-in-Add.ensures) (walks_more _ _ _ c.in_ok-visit.ensures c.sum.ensures.walked)

pub index-returns-in-Add-clause-value : goal.index-returns-in-Add-clause-value
index-returns-in-Add-clause-value t c = rw (c.in-Add.is, index_of_Add, ← c.as_slice-in-Add.ensures) c.sum.ensures.value

pub index-returns-in-Mul-clause-walked : goal.index-returns-in-Mul-clause-walked
index-returns-in-Mul-clause-walked t c = rw (c.in-Mul.is, index_of_Mul, ← c.as_slice-in-Mul.ensures) (walks_more _ _ _ c.in_ok-visit.ensures c.product.ensures.walked)

pub index-returns-in-Mul-clause-value : goal.index-returns-in-Mul-clause-value
index-returns-in-Mul-clause-value t c = rw (c.in-Mul.is, index_of_Mul, ← c.as_slice-in-Mul.ensures) c.product.ensures.value

pub sum-loop-item-preserved : goal.sum-loop-item-preserved
sum-loop-item-preserved t c =
    let left = rw (rest_index_items _ _ c.item-item.result c.loop-item-test.true c.item-item.is) at c.loop-item.invariant.walked in
    let value = rw (rest_index_items _ _ c.item-item.result c.loop-item-test.true c.item-item.is) at c.loop-item.invariant.value in
    let step = rw c.in_ok-value.ensures.value at c.in_ok-next.ensures.walked in
    record {
      walked = rw (c.in_ok-next.ensures.value, c.in_ok-value.ensures.value) (leads_on (leads_on left c.in_ok-value.ensures.walked) (step _));
      value = rw (c.in_ok-next.ensures.value, c.in_ok-value.ensures.value) value;
    }

pub sum-returns-in_err-value-clause-walked : goal.sum-returns-in_err-value-clause-walked
sum-returns-in_err-value-clause-walked t c =
    let left = rw (rest_index_items _ _ c.item-item.result c.loop-item-test.true c.item-item.is) at c.loop-item.invariant.walked in
    handed_on _ _ c.from_residual.ensures (leads_stop left (stops_front _ c.in_err-value.ensures.walked))

pub sum-returns-in_err-next-clause-walked : goal.sum-returns-in_err-next-clause-walked
sum-returns-in_err-next-clause-walked t c =
    let left = rw (rest_index_items _ _ c.item-item.result c.loop-item-test.true c.item-item.is) at c.loop-item.invariant.walked in
    let step = rw c.in_ok-value.ensures.value at c.in_err-next.ensures.walked in
    handed_on _ _ c.from_residual-in_err-next.ensures (leads_stop left (stops_back c.in_ok-value.ensures.walked (stops_front _ (step _))))

pub product-loop-factor-preserved : goal.product-loop-factor-preserved
product-loop-factor-preserved t c =
    let left = rw (rest_indices _ _ c.factor-item.result c.loop-factor-test.true c.factor-item.is) at c.loop-factor.invariant.walked in
    let value = rw (rest_indices _ _ c.factor-item.result c.loop-factor-test.true c.factor-item.is) at c.loop-factor.invariant.value in
    let step = rw c.in_ok-value.ensures.value at c.in_ok-next.ensures.walked in
    record {
      walked = rw (c.in_ok-next.ensures.value, c.in_ok-value.ensures.value) (leads_on (leads_on left c.in_ok-value.ensures.walked) (step _));
      value = rw (c.in_ok-next.ensures.value, c.in_ok-value.ensures.value) value;
    }

pub product-returns-in_err-value-clause-walked : goal.product-returns-in_err-value-clause-walked
product-returns-in_err-value-clause-walked t c =
    let left = rw (rest_indices _ _ c.factor-item.result c.loop-factor-test.true c.factor-item.is) at c.loop-factor.invariant.walked in
    handed_on _ _ c.from_residual.ensures (leads_stop left (stops_front _ c.in_err-value.ensures.walked))

pub product-returns-in_err-next-clause-walked : goal.product-returns-in_err-next-clause-walked
product-returns-in_err-next-clause-walked t c =
    let left = rw (rest_indices _ _ c.factor-item.result c.loop-factor-test.true c.factor-item.is) at c.loop-factor.invariant.walked in
    let step = rw c.in_ok-value.ensures.value at c.in_err-next.ensures.walked in
    handed_on _ _ c.from_residual-in_err-next.ensures (leads_stop left (stops_back c.in_ok-value.ensures.walked (stops_front _ (step _))))
