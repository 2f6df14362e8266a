use Rattle.std.proofs.lemmas.List.{drop_all}
use Rattle.flp_syntax.specs.View.{index_of_Number, index_of_Var, index_of_Add, index_of_Mul}
use Rattle.flp_syntax.proofs.Rests.{rest_indices, rest_index_items}
use Rattle.flp_check.proofs.Finding.{finds_none, finds_more}
use Rattle.flp_check.proofs.text.Search.+index.Goals as goal

pub index-returns-in-Number : goal.index-returns-in-Number
index-returns-in-Number t c = rw (c.in-Number.is, index_of_Number) (finds_none _)

pub index-returns-in-Var : goal.index-returns-in-Var
index-returns-in-Var t c = rw (c.in-Var.is, index_of_Var) c.note_unbound.ensures

pub index-returns-in-Add : goal.index-returns-in-Add
index-returns-in-Add t c = rw (c.in-Add.is, index_of_Add, ← c.as_slice.ensures) c.index_items.ensures

pub index-returns-in-Mul : goal.index-returns-in-Mul
index-returns-in-Mul t c = rw (c.in-Mul.is, index_of_Mul, ← c.as_slice-in-Mul.ensures) c.index_factors.ensures

pub index_items-loop-item-preserved : goal.index_items-loop-item-preserved
index_items-loop-item-preserved t c = λ after h. c.loop-item.invariant after (rw (rest_index_items _ _ c.item-item.result c.loop-item-test.true c.item-item.is) (finds_more c.index.ensures h))

pub index_factors-loop-factor-preserved : goal.index_factors-loop-factor-preserved
index_factors-loop-factor-preserved t c = λ after h. c.loop-factor.invariant after (rw (rest_indices _ _ c.factor-item.result c.loop-factor-test.true c.factor-item.is) (finds_more c.index.ensures h))

pub index_items-returns : goal.index_items-returns
index_items-returns t c = c.loop-item.invariant _ (rw (drop_all _ _ c.loop-item-test.false) (finds_none _))

pub index_factors-returns : goal.index_factors-returns
index_factors-returns t c = c.loop-factor.invariant _ (rw (drop_all _ _ c.loop-factor-test.false) (finds_none _))
