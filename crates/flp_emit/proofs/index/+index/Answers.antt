use Rattle.std.proofs.Common.{ap, ◌∙◌, rules}
use Rattle.flp_syntax.specs.declared.syntax.IdxItem.{the_lemmas}
use Rattle.flp_syntax.specs.Scope.{sum_from}
use Rattle.flp_syntax.specs.View.{index_of_Add, index_of_Mul}
use Rattle.flp_syntax.specs.View.{scope_of}
use Rattle.flp_syntax.proofs.Rests.{rest_index_items}
use Rattle.flp_emit.proofs.index.+index.Goals as goal

pub index_value-sum_value-requires : goal.index_value-sum_value-requires
index_value-sum_value-requires t c =
    (search (rules, the_lemmas), rw c.as_slice-in-Add.ensures (rw (c.in-Add.is, index_of_Add) at c.requires))

pub index_value-product_value-requires : goal.index_value-product_value-requires
index_value-product_value-requires t c =
    (search (rules, the_lemmas), rw c.as_slice-in-Mul.ensures (rw (c.in-Mul.is, index_of_Mul) at c.requires))

pub sum_value-index_value-value-requires : goal.sum_value-index_value-value-requires
sum_value-index_value-value-requires t c = (
  search (rules, the_lemmas),
  (rw (rest_index_items _ _ c.item-item.result c.loop-item-test.true c.item-item.is) at c.loop-item.invariant.fits).0,
)

pub sum_value-next-sum-requires : goal.sum_value-next-sum-requires
sum_value-next-sum-requires t c =
    rw c.index_value-value.ensures
    (rw (rest_index_items _ _ c.item-item.result c.loop-item-test.true c.item-item.is) at c.loop-item.invariant.fits).1

pub sum_value-loop-item-preserved : goal.sum_value-loop-item-preserved
sum_value-loop-item-preserved t c =
    rw (c.next-sum.ensures, c.index_value-value.ensures)
    (record {
      fits =
          (rw (rest_index_items _ _ c.item-item.result c.loop-item-test.true c.item-item.is) at c.loop-item.invariant.fits).2;
      leads =
          c.loop-item.invariant.leads
          ∙ ap (sum_from (scope_of c.args.scope.now) c.loop-item.sum)
          (rest_index_items _ _ c.item-item.result c.loop-item-test.true c.item-item.is);
    })
