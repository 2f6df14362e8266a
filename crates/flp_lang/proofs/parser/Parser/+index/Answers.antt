use Rattle.std.proofs.Common.{arith, refl, ◌∙◌, ap, ◌++◌, ◌∷◌, map, List, Bool}
use Rattle.flp_lang.specs.Ahead as ahead
use Rattle.flp_lang.specs.Ahead.{Ahead, next, fixed}
use Rattle.flp_syntax.specs.Tree.{Index, index_number, index_sum, index_product}
use Rattle.flp_syntax.specs.View.{index_of, index_item_of, index_of_Number, index_of_Var, index_item_of_roll}
use Rattle.flp_syntax.specs.declared.token.Mark.TheVariants.{Close}
use Rattle.flp_lang.proofs.Moves.{fails, more_read, all_read, index_head, index_term_head, index_terms_sign, index_terms_end, index_factors_star, index_factors_end, index_number_there, value_read, index_name_after, index_group_after, level_closed}
use Rattle.flp_lang.proofs.parser.Parser.+index.Goals as goal

pub index-returns-in_err-first-clause-runs : goal.index-returns-in_err-first-clause-runs
index-returns-in_err-first-clause-runs t c = λ K. fails _ _ _ _ _ _ _ _ _ _ c.from_residual.ensures _ (index_head _ _ K _) (c.in_err-first.ensures.runs (λ v. next ahead.index_terms (λ more. K (index_sum v more))))

pub index-returns-in_err-more-clause-runs : goal.index-returns-in_err-more-clause-runs
index-returns-in_err-more-clause-runs t c = λ K. fails _ _ _ _ _ _ _ _ _ _ c.from_residual-in_err-more.ensures _ (index_head _ _ K _ ∙ c.in_ok-first.ensures.runs (λ v. next ahead.index_terms (λ more. K (index_sum v more)))) (c.in_err-more.ensures.runs (λ more. K (index_sum (index_of c.in_ok-first.first) more)))

pub index-returns-clause-runs : goal.index-returns-clause-runs
index-returns-clause-runs t c = λ K. index_head _ _ K _ ∙ c.in_ok-first.ensures.runs (λ v. next ahead.index_terms (λ more. K (index_sum v more))) ∙ c.in_ok-more.ensures.runs (λ more. K (index_sum (index_of c.in_ok-first.first) more)) ∙ value_read _ _ _ K _ _ c.in_ok-index_sum.ensures

pub index_term-returns-in_err-first-clause-runs : goal.index_term-returns-in_err-first-clause-runs
index_term-returns-in_err-first-clause-runs t c = λ K. fails _ _ _ _ _ _ _ _ _ _ c.from_residual.ensures _ (index_term_head _ _ K _) (c.in_err-first.ensures.runs (λ v. next ahead.index_factors (λ more. K (index_product v more))))

pub index_term-returns-in_err-more-clause-runs : goal.index_term-returns-in_err-more-clause-runs
index_term-returns-in_err-more-clause-runs t c = λ K. fails _ _ _ _ _ _ _ _ _ _ c.from_residual-in_err-more.ensures _ (index_term_head _ _ K _ ∙ c.in_ok-first.ensures.runs (λ v. next ahead.index_factors (λ more. K (index_product v more)))) (c.in_err-more.ensures.runs (λ more. K (index_product (index_of c.in_ok-first.first) more)))

pub index_term-returns-clause-runs : goal.index_term-returns-clause-runs
index_term-returns-clause-runs t c = λ K. index_term_head _ _ K _ ∙ c.in_ok-first.ensures.runs (λ v. next ahead.index_factors (λ more. K (index_product v more))) ∙ c.in_ok-more.ensures.runs (λ more. K (index_product (index_of c.in_ok-first.first) more)) ∙ value_read _ _ _ K _ _ c.in_ok-index_product.ensures

pub more_index_terms-returns-in_err-idx-in-Some-clause-runs : goal.more_index_terms-returns-in_err-idx-in-Some-clause-runs
more_index_terms-returns-in_err-idx-in-Some-clause-runs t c = λ K.
    let K' = λ (more : List (Bool × Index)). K (map index_item_of c.loop-minus.items.items ++ more) in
    fails _ _ _ _ _ _ _ _ _ _ c.from_residual.ensures _ (c.loop-minus.invariant.runs K ∙ index_terms_sign _ _ _ c.in-Some.minus K' _ _ c.in-Some.ensures.taken.0 c.in-Some.ensures.taken.1)
    (c.in_err-idx-in-Some.ensures.runs (λ v. next ahead.index_terms (λ more. K' ((c.in-Some.minus, v) ∷ more))))

pub more_index_terms-loop-minus-preserved : goal.more_index_terms-loop-minus-preserved
more_index_terms-loop-minus-preserved t c = record {
  runs = λ K.
      let K' = λ (more : List (Bool × Index)). K (map index_item_of c.loop-minus.items.items ++ more) in
      c.loop-minus.invariant.runs K ∙ index_terms_sign _ _ _ c.in-Some.minus K' _ _ c.in-Some.ensures.taken.0 c.in-Some.ensures.taken.1
      ∙ c.in_ok-idx-in-Some.ensures.runs (λ v. next ahead.index_terms (λ more. K' ((c.in-Some.minus, v) ∷ more)))
      ∙ more_read index_item_of (next ahead.index_terms) _ _ _ K _ _ _ _ (index_item_of_roll c.in-Some.minus c.in_ok-idx-in-Some.idx) c.in_ok-push-in-Some.ensures.items;
  left = omega (arith, c.in_ok-idx-in-Some.ensures.left, c.in-Some.ensures.left, c.loop-minus.invariant.left);
}

pub more_index_terms-returns-clause-runs : goal.more_index_terms-returns-clause-runs
more_index_terms-returns-clause-runs t c = λ K. c.loop-minus.invariant.runs K ∙ index_terms_end _ _ _ _ c.in-None.ensures.taken.0 ∙ all_read index_item_of _ _ _ _ _ K _ c.in-None.ensures.taken.1 c.in-None.ensures.taken.2

pub more_index_factors-returns-in_err-factor-clause-runs : goal.more_index_factors-returns-in_err-factor-clause-runs
more_index_factors-returns-in_err-factor-clause-runs t c = λ K.
    let K' = λ (more : List Index). K (map index_of c.loop-self.factors.items ++ more) in
    let e = rw c.loop-self-test.true at c.eat.ensures.eaten in
    fails _ _ _ _ _ _ _ _ _ _ c.from_residual.ensures _ (c.loop-self.invariant.runs K ∙ index_factors_star _ _ _ K' _ _ e.0 e.1) (c.in_err-factor.ensures.runs (λ v. next ahead.index_factors (λ more. K' (v ∷ more))))

pub more_index_factors-loop-self-preserved : goal.more_index_factors-loop-self-preserved
more_index_factors-loop-self-preserved t c =
    let e = rw c.loop-self-test.true at c.eat.ensures.eaten in
    record {
      runs = λ K.
          let K' = λ (more : List Index). K (map index_of c.loop-self.factors.items ++ more) in
          c.loop-self.invariant.runs K ∙ index_factors_star _ _ _ K' _ _ e.0 e.1
          ∙ c.in_ok-factor.ensures.runs (λ v. next ahead.index_factors (λ more. K' (v ∷ more)))
          ∙ more_read index_of (next ahead.index_factors) _ _ _ K _ _ _ _ refl c.in_ok-push.ensures.items;
      left = omega (arith, c.in_ok-factor.ensures.left, c.eat.ensures.left, c.loop-self.invariant.left);
    }

pub more_index_factors-returns-clause-runs : goal.more_index_factors-returns-clause-runs
more_index_factors-returns-clause-runs t c = λ K. let e = rw c.loop-self-test.false at c.eat.ensures.eaten in c.loop-self.invariant.runs K ∙ index_factors_end _ _ _ _ e.0 ∙ all_read index_of _ _ _ _ _ K _ e.1 e.2

pub index_prim-returns-in-Some-clause-runs : goal.index_prim-returns-in-Some-clause-runs
index_prim-returns-in-Some-clause-runs t c = λ K. index_number_there _ _ _ _ K _ c.number.new.self.rest.now c.in-Some.ensures.taken.0 c.in-Some.ensures.taken.1 ∙ value_read _ _ c.number.new.self.rest.now K _ _ (index_of_Number c.args.self.now.at c.value.result ∙ ap (index_number c.args.self.now.at) c.value.ensures.same)

pub index_prim-returns-in-Some-2-clause-runs : goal.index_prim-returns-in-Some-2-clause-runs
index_prim-returns-in-Some-2-clause-runs t c = λ K.
    let n = rw c.in-Some-2.is at c.in_ok-name.ensures.taken in
    index_name_after _ _ _ _ _ K _ _ _ c.in-None.ensures.taken.1 c.in-None.ensures.taken.2 n.0 n.1 ∙ value_read _ _ _ K _ _ (index_of_Var _ _)

pub index_prim-returns-in_err-inner-clause-runs : goal.index_prim-returns-in_err-inner-clause-runs
index_prim-returns-in_err-inner-clause-runs t c = λ K.
    let n = rw c.in-None-2.is at c.in_ok-name.ensures.taken in let head = index_group_after (c.args.level, 0) _ _ _ K _ _ _ c.in-None.ensures.taken.0 c.in-None.ensures.taken.1 c.in-None.ensures.taken.2 n.0 n.1 n.2 in
    fails _ _ _ _ _ _ _ _ _ _ c.from_residual-in_err-inner.ensures _ head (c.in_err-inner.ensures.runs (next ahead.index (λ v. fixed Close (K v))))

pub index_prim-returns-in_err-index-clause-runs : goal.index_prim-returns-in_err-index-clause-runs
index_prim-returns-in_err-index-clause-runs t c = λ K.
    let n = rw c.in-None-2.is at c.in_ok-name.ensures.taken in let head = index_group_after (c.args.level, 0) _ _ _ K _ _ _ c.in-None.ensures.taken.0 c.in-None.ensures.taken.1 c.in-None.ensures.taken.2 n.0 n.1 n.2 in
    fails _ _ _ _ _ _ _ _ _ _ c.from_residual-in_err-index.ensures _ (head ∙ c.in_ok-inner.ensures.runs (next ahead.index (λ v. fixed Close (K v)))) (c.in_err-index.ensures.runs (λ v. fixed Close (K v)))

pub index_prim-returns-in_err-expect-clause-runs : goal.index_prim-returns-in_err-expect-clause-runs
index_prim-returns-in_err-expect-clause-runs t c = λ K.
    let n = rw c.in-None-2.is at c.in_ok-name.ensures.taken in let head = index_group_after (c.args.level, 0) _ _ _ K _ _ _ c.in-None.ensures.taken.0 c.in-None.ensures.taken.1 c.in-None.ensures.taken.2 n.0 n.1 n.2 in
    fails _ _ _ _ _ _ _ _ _ _ c.from_residual-in_err-expect.ensures _ (head ∙ c.in_ok-inner.ensures.runs (next ahead.index (λ v. fixed Close (K v))) ∙ c.in_ok-index.ensures.runs (λ v. fixed Close (K v))) (c.in_err-expect.ensures.runs (c.in_ok-inner.inner, 0) (K (index_of c.in_ok-index.index)) refl)

pub index_prim-returns-clause-runs : goal.index_prim-returns-clause-runs
index_prim-returns-clause-runs t c = λ K.
    let n = rw c.in-None-2.is at c.in_ok-name.ensures.taken in let head = index_group_after (c.args.level, 0) _ _ _ K _ _ _ c.in-None.ensures.taken.0 c.in-None.ensures.taken.1 c.in-None.ensures.taken.2 n.0 n.1 n.2 in
    head ∙ c.in_ok-inner.ensures.runs (next ahead.index (λ v. fixed Close (K v))) ∙ c.in_ok-index.ensures.runs (λ v. fixed Close (K v)) ∙ c.in_ok-expect.ensures.runs (c.in_ok-inner.inner, 0) (K (index_of c.in_ok-index.index)) refl
    ∙ level_closed _ _ _ _ _ c.in_ok-inner.ensures.inner.0
