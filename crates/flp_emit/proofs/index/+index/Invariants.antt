use Rattle.std.proofs.Common.{◌≡◌, drop, map}
use Rattle.flp_syntax.specs.Tree.{index_items, indices}
use Rattle.flp_syntax.specs.Scope.{sum_from, product_from}
use Rattle.flp_syntax.specs.View.{index_of, index_item_of}
use Rattle.flp_syntax.specs.Fits.{SumFits, ProductFits}
use Rattle.flp_syntax.specs.View.{scope_of}
use Rattle.flp_emit.proofs.index.+index.Given as goal

-- the items from here on fit behind the sum so far, and lead to the sum of all
abbrev pub invariant-sum_value-loop-item : goal.invariant-sum_value-loop-item
invariant-sum_value-loop-item l = record {
  fits : SumFits (scope_of l.scope) l.sum (index_items (map index_item_of (drop l.item-index l.items)));
  leads :
      sum_from (scope_of l.scope) 0 (index_items (map index_item_of l.items))
      ≡ sum_from (scope_of l.scope) l.sum (index_items (map index_item_of (drop l.item-index l.items)));
}

abbrev pub invariant-product_value-loop-factor : goal.invariant-product_value-loop-factor
invariant-product_value-loop-factor l = record {
  fits : ProductFits (scope_of l.scope) l.product (indices (map index_of (drop l.factor-index l.factors)));
  leads :
      product_from (scope_of l.scope) 1 (indices (map index_of l.factors))
      ≡ product_from (scope_of l.scope) l.product (indices (map index_of (drop l.factor-index l.factors)));
}
