use Rattle.std.proofs.Common.{◌≡◌, map, drop}
use Rattle.flp_syntax.specs.Tree.{index_items, indices}
use Rattle.flp_syntax.specs.Scope.{sum_from, product_from}
use Rattle.flp_syntax.specs.View.{index_of, index_item_of}
use Rattle.flp_check.specs.Events.{sum_events, product_events}
use Rattle.flp_check.specs.Held.{counts_of}
use Rattle.flp_syntax.specs.View.{scope_of}
use Rattle.flp_check.proofs.Walking.{Leads}
use Rattle.flp_check.proofs.counter.Counter.+index.Given as goal

abbrev pub invariant-product-loop-factor : goal.invariant-product-loop-factor
invariant-product-loop-factor l = record {
  walked : Leads (counts_of l.self) (product_events (scope_of l.scope) l.at l.front (indices (map index_of (drop l.factor-index l.factors)))) (counts_of l.fn.self) (product_events (scope_of l.scope) l.at 1 (indices (map index_of l.factors)));
  value : product_from (scope_of l.scope) 1 (indices (map index_of l.factors)) ≡ product_from (scope_of l.scope) l.front (indices (map index_of (drop l.factor-index l.factors)));
}

abbrev pub invariant-sum-loop-item : goal.invariant-sum-loop-item
invariant-sum-loop-item l = record {
  walked : Leads (counts_of l.self) (sum_events (scope_of l.scope) l.at l.front (index_items (map index_item_of (drop l.item-index l.items)))) (counts_of l.fn.self) (sum_events (scope_of l.scope) l.at 0 (index_items (map index_item_of l.items)));
  value : sum_from (scope_of l.scope) 0 (index_items (map index_item_of l.items)) ≡ sum_from (scope_of l.scope) l.front (index_items (map index_item_of (drop l.item-index l.items)));
}
