use Rattle.std.proofs.Common.{arith, ◌∙◌, refl, sym, ap, ◌++◌, [], ◌∷◌, map, List, Bool, Some}
use Rattle.flp_lang.specs.Ahead as ahead
use Rattle.flp_lang.specs.Ahead.{Ahead, next, fixed, range, name_or_call, meas_at}
use Rattle.flp_syntax.specs.Tree.{Tree, Argument, sum, call, one, each_arg, arguments, sum_of, product_of, power_of}
use Rattle.flp_syntax.specs.View.{index_of, tree_of, item_of, arg_of, tree_of_Var, tree_of_Sum, tree_of_Call, item_of_roll, arg_of_One, arg_of_Each}
use Rattle.flp_syntax.specs.declared.token.Mark.TheVariants.{Close}
use Rattle.flp_lang.proofs.Moves as moves
use Rattle.flp_lang.proofs.Moves.{fails, level_closed, value_read, more_read, all_read, along}
use Rattle.flp_lang.proofs.parser.Parser.+expr.Goals as goal

pub expr-returns-in_err-first-clause-runs : goal.expr-returns-in_err-first-clause-runs
expr-returns-in_err-first-clause-runs t c = λ K. fails _ _ _ _ _ _ _ _ _ _ c.from_residual.ensures _ (moves.expr_head _ _ _ c.eat-minus.result K _ _ c.eat-minus.ensures.eaten) (c.in_err-first.ensures.runs (λ v. next ahead.terms (λ more. K (sum_of c.eat-minus.result v more))))

pub expr-returns-in_err-more-clause-runs : goal.expr-returns-in_err-more-clause-runs
expr-returns-in_err-more-clause-runs t c = λ K. fails _ _ _ _ _ _ _ _ _ _ c.from_residual-in_err-more.ensures _ (moves.expr_head _ _ _ c.eat-minus.result K _ _ c.eat-minus.ensures.eaten ∙ c.in_ok-first.ensures.runs (λ v. next ahead.terms (λ more. K (sum_of c.eat-minus.result v more)))) (c.in_err-more.ensures.runs (λ more. K (sum_of c.eat-minus.result (tree_of c.in_ok-first.first) more)))

pub expr-returns-clause-runs : goal.expr-returns-clause-runs
expr-returns-clause-runs t c = λ K. moves.expr_head _ _ _ c.eat-minus.result K _ _ c.eat-minus.ensures.eaten ∙ c.in_ok-first.ensures.runs (λ v. next ahead.terms (λ more. K (sum_of c.eat-minus.result v more))) ∙ c.in_ok-more.ensures.runs (λ more. K (sum_of c.eat-minus.result (tree_of c.in_ok-first.first) more)) ∙ value_read _ _ _ K _ _ c.in_ok-sum_of.ensures

pub term-returns-in_err-first-clause-runs : goal.term-returns-in_err-first-clause-runs
term-returns-in_err-first-clause-runs t c = λ K. fails _ _ _ _ _ _ _ _ _ _ c.from_residual.ensures _ (moves.term_head _ _ K _) (c.in_err-first.ensures.runs (λ v. next ahead.factors (λ more. K (product_of v more))))

pub term-returns-in_err-more-clause-runs : goal.term-returns-in_err-more-clause-runs
term-returns-in_err-more-clause-runs t c = λ K. fails _ _ _ _ _ _ _ _ _ _ c.from_residual-in_err-more.ensures _ (moves.term_head _ _ K _ ∙ c.in_ok-first.ensures.runs (λ v. next ahead.factors (λ more. K (product_of v more)))) (c.in_err-more.ensures.runs (λ more. K (product_of (tree_of c.in_ok-first.first) more)))

pub term-returns-clause-runs : goal.term-returns-clause-runs
term-returns-clause-runs t c = λ K. moves.term_head _ _ K _ ∙ c.in_ok-first.ensures.runs (λ v. next ahead.factors (λ more. K (product_of v more))) ∙ c.in_ok-more.ensures.runs (λ more. K (product_of (tree_of c.in_ok-first.first) more)) ∙ value_read _ _ _ K _ _ c.in_ok-product_of.ensures

pub factor-returns-in_err-base-clause-runs : goal.factor-returns-in_err-base-clause-runs
factor-returns-in_err-base-clause-runs t c = λ K. fails _ _ _ _ _ _ _ _ _ _ c.from_residual.ensures _ (moves.factor_head _ _ K _) (c.in_err-base.ensures.runs (λ v. next ahead.exponent (λ e. K (power_of v e))))

pub factor-returns-then-not-eat-clause-runs : goal.factor-returns-then-not-eat-clause-runs
factor-returns-then-not-eat-clause-runs t c = λ K. let e = rw c.if-not-eat.true at c.eat.ensures.eaten in moves.factor_head _ _ K _ ∙ c.in_ok-base.ensures.runs (λ v. next ahead.exponent (λ e. K (power_of v e))) ∙ moves.exponent_none _ _ _ (λ e. K (power_of (tree_of c.in_ok-base.base) e)) _ _ e.0 e.1 e.2

pub factor-returns-in_err-exponent-clause-runs : goal.factor-returns-in_err-exponent-clause-runs
factor-returns-in_err-exponent-clause-runs t c = λ K. let e = rw c.if-not-eat.false at c.eat.ensures.eaten in fails _ _ _ _ _ _ _ _ _ _ c.from_residual-in_err-exponent.ensures _ (moves.factor_head _ _ K _ ∙ c.in_ok-base.ensures.runs (λ v. next ahead.exponent (λ e. K (power_of v e))) ∙ moves.exponent_there _ _ _ (λ e. K (power_of (tree_of c.in_ok-base.base) e)) _ _ e.0 e.1) (c.in_err-exponent.ensures.runs (λ v. K (power_of (tree_of c.in_ok-base.base) (Some v))))

pub factor-returns-clause-runs : goal.factor-returns-clause-runs
factor-returns-clause-runs t c = λ K. let e = rw c.if-not-eat.false at c.eat.ensures.eaten in moves.factor_head _ _ K _ ∙ c.in_ok-base.ensures.runs (λ v. next ahead.exponent (λ e. K (power_of v e))) ∙ moves.exponent_there _ _ _ (λ e. K (power_of (tree_of c.in_ok-base.base) e)) _ _ e.0 e.1 ∙ c.in_ok-exponent.ensures.runs (λ v. K (power_of (tree_of c.in_ok-base.base) (Some v))) ∙ value_read _ _ _ K _ _ c.in_ok-power_of.ensures

pub more_terms-returns-in_err-expr-in-Some-clause-runs : goal.more_terms-returns-in_err-expr-in-Some-clause-runs
more_terms-returns-in_err-expr-in-Some-clause-runs t c = λ K.
    let K' = λ (more : List (Bool × Tree)). K (map item_of c.loop-minus.items.items ++ more) in
    fails _ _ _ _ _ _ _ _ _ _ c.from_residual.ensures _ (c.loop-minus.invariant.runs K ∙ moves.terms_sign _ _ _ c.in-Some.minus K' _ _ c.in-Some.ensures.taken.0 c.in-Some.ensures.taken.1)
    (c.in_err-expr-in-Some.ensures.runs (λ v. next ahead.terms (λ more. K' ((c.in-Some.minus, v) ∷ more))))

pub more_terms-loop-minus-preserved : goal.more_terms-loop-minus-preserved
more_terms-loop-minus-preserved t c = record {
  runs = λ K.
      let K' = λ (more : List (Bool × Tree)). K (map item_of c.loop-minus.items.items ++ more) in
      c.loop-minus.invariant.runs K ∙ moves.terms_sign _ _ _ c.in-Some.minus K' _ _ c.in-Some.ensures.taken.0 c.in-Some.ensures.taken.1
      ∙ c.in_ok-expr-in-Some.ensures.runs (λ v. next ahead.terms (λ more. K' ((c.in-Some.minus, v) ∷ more)))
      ∙ more_read item_of (next ahead.terms) _ _ _ K _ _ _ _ (item_of_roll c.in-Some.minus c.in_ok-expr-in-Some.expr) c.in_ok-push-in-Some.ensures.items;
  left = omega (arith, c.in_ok-expr-in-Some.ensures.left, c.in-Some.ensures.left, c.loop-minus.invariant.left);
}

pub more_terms-returns-clause-runs : goal.more_terms-returns-clause-runs
more_terms-returns-clause-runs t c = λ K. c.loop-minus.invariant.runs K ∙ moves.terms_end _ _ _ _ c.in-None.ensures.taken.0 ∙ all_read item_of _ _ _ _ _ K _ c.in-None.ensures.taken.1 c.in-None.ensures.taken.2

pub more_factors-returns-in_err-factor-clause-runs : goal.more_factors-returns-in_err-factor-clause-runs
more_factors-returns-in_err-factor-clause-runs t c = λ K.
    let K' = λ (more : List Tree). K (map tree_of c.loop-self.factors.items ++ more) in
    let e = rw c.loop-self-test.true at c.eat.ensures.eaten in
    fails _ _ _ _ _ _ _ _ _ _ c.from_residual.ensures _ (c.loop-self.invariant.runs K ∙ moves.factors_star _ _ _ K' _ _ e.0 e.1) (c.in_err-factor.ensures.runs (λ v. next ahead.factors (λ more. K' (v ∷ more))))

pub more_factors-loop-self-preserved : goal.more_factors-loop-self-preserved
more_factors-loop-self-preserved t c =
    let e = rw c.loop-self-test.true at c.eat.ensures.eaten in
    record {
      runs = λ K.
          let K' = λ (more : List Tree). K (map tree_of c.loop-self.factors.items ++ more) in
          c.loop-self.invariant.runs K ∙ moves.factors_star _ _ _ K' _ _ e.0 e.1
          ∙ c.in_ok-factor.ensures.runs (λ v. next ahead.factors (λ more. K' (v ∷ more)))
          ∙ more_read tree_of (next ahead.factors) _ _ _ K _ _ _ _ refl c.in_ok-push.ensures.items;
      left = omega (arith, c.in_ok-factor.ensures.left, c.eat.ensures.left, c.loop-self.invariant.left);
    }

pub more_factors-returns-clause-runs : goal.more_factors-returns-clause-runs
more_factors-returns-clause-runs t c = λ K. let e = rw c.loop-self-test.false at c.eat.ensures.eaten in c.loop-self.invariant.runs K ∙ moves.factors_end _ _ _ _ e.0 ∙ all_read tree_of _ _ _ _ _ K _ e.1 e.2

pub args-returns-in_err-first-clause-runs : goal.args-returns-in_err-first-clause-runs
args-returns-in_err-first-clause-runs t c = λ K. fails _ _ _ _ _ _ _ _ _ _ c.from_residual.ensures _ (moves.args_head _ _ K _) (c.in_err-first.ensures.runs (λ v. next ahead.more_args (λ more. K (v ∷ more))))

pub args-loop-self-init : goal.args-loop-self-init
args-loop-self-init t c = record {
  runs = λ K. moves.args_head _ _ K _ ∙ c.in_ok-first.ensures.runs (λ v. next ahead.more_args (λ more. K (v ∷ more)))
      ∙ more_read arg_of (next ahead.more_args) _ _ _ K [] _ c.in_ok-first.first _ refl (c.in_ok-push.ensures.items ∙ ap (λ xs. xs ++ c.in_ok-first.first ∷ []) c.new-args.ensures.items);
  left = omega (arith, c.in_ok-first.ensures.left);
}

pub args-returns-in_err-arg-clause-runs : goal.args-returns-in_err-arg-clause-runs
args-returns-in_err-arg-clause-runs t c = λ K.
    let K' = λ (more : List Argument). K (map arg_of c.loop-self.args.items ++ more) in
    let e = rw c.loop-self-test.true at c.eat.ensures.eaten in
    fails _ _ _ _ _ _ _ _ _ _ c.from_residual-in_err-arg.ensures _ (c.loop-self.invariant.runs K ∙ moves.more_args_comma _ _ _ K' _ _ e.0 e.1) (c.in_err-arg.ensures.runs (λ v. next ahead.more_args (λ more. K' (v ∷ more))))

pub args-loop-self-preserved : goal.args-loop-self-preserved
args-loop-self-preserved t c =
    let e = rw c.loop-self-test.true at c.eat.ensures.eaten in
    record {
      runs = λ K.
          let K' = λ (more : List Argument). K (map arg_of c.loop-self.args.items ++ more) in
          c.loop-self.invariant.runs K ∙ moves.more_args_comma _ _ _ K' _ _ e.0 e.1
          ∙ c.in_ok-arg.ensures.runs (λ v. next ahead.more_args (λ more. K' (v ∷ more)))
          ∙ more_read arg_of (next ahead.more_args) _ _ _ K _ _ _ _ refl c.in_ok-push-2.ensures.items;
      left = omega (arith, c.in_ok-arg.ensures.left, c.eat.ensures.left, c.loop-self.invariant.left);
    }

pub args-returns-clause-runs : goal.args-returns-clause-runs
args-returns-clause-runs t c = λ K. let e = rw c.loop-self-test.false at c.eat.ensures.eaten in c.loop-self.invariant.runs K ∙ moves.more_args_end _ _ _ _ e.0 ∙ all_read arg_of _ _ _ _ _ K _ e.1 e.2

pub prim-returns-in-Number-clause-runs : goal.prim-returns-in-Number-clause-runs
prim-returns-in-Number-clause-runs t c = λ K. along _ _ _ _ _ _ _ _ _ _ (moves.prim_number _ _ K _ (sym c.start.ensures ∙ c.in-Number.is)) (c.number_expr.ensures.runs K)

pub prim-returns-in-Joint-clause-runs : goal.prim-returns-in-Joint-clause-runs
prim-returns-in-Joint-clause-runs t c = λ K. along _ _ _ _ _ _ _ _ _ _ (moves.prim_joint _ _ K _ (sym c.start.ensures ∙ c.in-Joint.is)) (c.joint.ensures.runs K)

pub prim-returns-in-Meas-clause-runs : goal.prim-returns-in-Meas-clause-runs
prim-returns-in-Meas-clause-runs t c = λ K. along _ _ _ _ _ _ _ _ _ _ (moves.prim_meas _ _ K _ (sym c.start.ensures ∙ c.in-Meas.is)) (c.meas.ensures.runs K)

pub prim-returns-in-Sum-clause-runs : goal.prim-returns-in-Sum-clause-runs
prim-returns-in-Sum-clause-runs t c = λ K. along _ _ _ _ _ _ _ _ _ _ (moves.prim_sum _ _ K _ (sym c.start.ensures ∙ c.in-Sum.is)) (c.sum.ensures.runs K)

pub prim-returns-in-Name-clause-runs : goal.prim-returns-in-Name-clause-runs
prim-returns-in-Name-clause-runs t c = λ K. along _ _ _ _ _ _ _ _ _ _ (moves.prim_named _ _ K _ (sym c.start.ensures ∙ c.in-Name.is)) (c.named.ensures.runs K)

pub prim-returns-in-Other-clause-runs : goal.prim-returns-in-Other-clause-runs
prim-returns-in-Other-clause-runs t c = λ K. moves.prim_other _ _ K _ (sym c.start.ensures ∙ c.in-Other.is)

pub prim-returns-in_err-inner-in-Group-clause-runs : goal.prim-returns-in_err-inner-in-Group-clause-runs
prim-returns-in_err-inner-in-Group-clause-runs t c = λ K. fails _ _ _ _ _ _ _ _ _ _ c.from_residual.ensures _ (moves.prim_group _ _ K _ (sym c.start.ensures ∙ c.in-Group.is)) (c.in_err-inner-in-Group.ensures.runs (next ahead.expr (λ v. fixed Close (K v))))

pub prim-returns-in_err-expr-in-Group-clause-runs : goal.prim-returns-in_err-expr-in-Group-clause-runs
prim-returns-in_err-expr-in-Group-clause-runs t c = λ K. fails _ _ _ _ _ _ _ _ _ _ c.from_residual-in_err-expr-in-Group.ensures _ (moves.prim_group _ _ K _ (sym c.start.ensures ∙ c.in-Group.is) ∙ c.in_ok-inner-in-Group.ensures.runs (next ahead.expr (λ v. fixed Close (K v)))) (c.in_err-expr-in-Group.ensures.runs (λ v. fixed Close (K v)))

pub prim-returns-in_err-expect-in-Group-clause-runs : goal.prim-returns-in_err-expect-in-Group-clause-runs
prim-returns-in_err-expect-in-Group-clause-runs t c = λ K. fails _ _ _ _ _ _ _ _ _ _ c.from_residual-in_err-expect-in-Group.ensures _ (moves.prim_group _ _ K _ (sym c.start.ensures ∙ c.in-Group.is) ∙ c.in_ok-inner-in-Group.ensures.runs (next ahead.expr (λ v. fixed Close (K v))) ∙ c.in_ok-expr-in-Group.ensures.runs (λ v. fixed Close (K v))) (c.in_err-expect-in-Group.ensures.runs (c.in_ok-inner-in-Group.inner, 0) (K (tree_of c.in_ok-expr-in-Group.expr)) refl)

pub prim-returns-in_ok-expect-in-Group-clause-runs : goal.prim-returns-in_ok-expect-in-Group-clause-runs
prim-returns-in_ok-expect-in-Group-clause-runs t c = λ K. moves.prim_group _ _ K _ (sym c.start.ensures ∙ c.in-Group.is) ∙ c.in_ok-inner-in-Group.ensures.runs (next ahead.expr (λ v. fixed Close (K v))) ∙ c.in_ok-expr-in-Group.ensures.runs (λ v. fixed Close (K v)) ∙ c.in_ok-expect-in-Group.ensures.runs (c.in_ok-inner-in-Group.inner, 0) (K (tree_of c.in_ok-expr-in-Group.expr)) refl ∙ level_closed _ _ _ _ _ c.in_ok-inner-in-Group.ensures.inner.0

pub sum-returns-clause-runs : goal.sum-returns-clause-runs
sum-returns-clause-runs t c = λ K.
    c.in_ok-expect.ensures.runs (c.args.level, 0) (range (λ n from to. next ahead.expr (λ v. fixed Close (K (sum c.args.self.now.at n from to v))))) refl
    ∙ c.in_ok-range.ensures.runs (λ n from to. next ahead.expr (λ v. fixed Close (K (sum c.args.self.now.at n from to v))))
    ∙ c.in_ok-body.ensures.runs (λ v. fixed Close (K (sum c.args.self.now.at c.in_ok-range.range.name (index_of c.in_ok-range.range.from) (index_of c.in_ok-range.range.to) v)))
    ∙ c.in_ok-expect-2.ensures.runs (c.in_ok-range.range.inner, 0) (K (sum c.args.self.now.at c.in_ok-range.range.name (index_of c.in_ok-range.range.from) (index_of c.in_ok-range.range.to) (tree_of c.in_ok-body.body))) refl
    ∙ level_closed _ _ _ _ _ c.in_ok-range.ensures.inner.0
    ∙ value_read _ _ _ K _ _ (tree_of_Sum _ _ _ _ _ ∙ ap (λ x. sum c.args.self.now.at c.in_ok-range.range.name (index_of c.in_ok-range.range.from) (index_of c.in_ok-range.range.to) (tree_of x)) c.in_ok-inner.ensures.ok)

pub named-returns-then-not-is_next-clause-runs : goal.named-returns-then-not-is_next-clause-runs
named-returns-then-not-is_next-clause-runs t c = λ K. c.in_ok-name.ensures.runs (c.args.level, 0) (λ n. next ahead.called (λ v. K (name_or_call c.args.self.now.at n v))) ∙ moves.called_not _ _ (λ v. K (name_or_call c.args.self.now.at c.in_ok-name.name v)) _ (sym c.is_next.ensures ∙ c.if-not-is_next.true) ∙ value_read _ _ _ K _ _ (tree_of_Var _ _)

pub named-returns-in_err-inner-clause-runs : goal.named-returns-in_err-inner-clause-runs
named-returns-in_err-inner-clause-runs t c = λ K. fails _ _ _ _ _ _ _ _ _ _ c.from_residual-in_err-inner.ensures _ (c.in_ok-name.ensures.runs (c.args.level, 0) (λ n. next ahead.called (λ v. K (name_or_call c.args.self.now.at n v))) ∙ moves.called_there _ _ (λ v. K (name_or_call c.args.self.now.at c.in_ok-name.name v)) _ (sym c.is_next.ensures ∙ c.if-not-is_next.false)) (c.in_err-inner.ensures.runs (next ahead.args (λ v. fixed Close (K (name_or_call c.args.self.now.at c.in_ok-name.name (Some v))))))

pub named-returns-in_err-args-clause-runs : goal.named-returns-in_err-args-clause-runs
named-returns-in_err-args-clause-runs t c = λ K. fails _ _ _ _ _ _ _ _ _ _ c.from_residual-in_err-args.ensures _ (c.in_ok-name.ensures.runs (c.args.level, 0) (λ n. next ahead.called (λ v. K (name_or_call c.args.self.now.at n v))) ∙ moves.called_there _ _ (λ v. K (name_or_call c.args.self.now.at c.in_ok-name.name v)) _ (sym c.is_next.ensures ∙ c.if-not-is_next.false) ∙ c.in_ok-inner.ensures.runs (next ahead.args (λ v. fixed Close (K (name_or_call c.args.self.now.at c.in_ok-name.name (Some v)))))) (c.in_err-args.ensures.runs (λ v. fixed Close (K (name_or_call c.args.self.now.at c.in_ok-name.name (Some v)))))

pub named-returns-in_err-expect-clause-runs : goal.named-returns-in_err-expect-clause-runs
named-returns-in_err-expect-clause-runs t c = λ K. fails _ _ _ _ _ _ _ _ _ _ c.from_residual-in_err-expect.ensures _ (c.in_ok-name.ensures.runs (c.args.level, 0) (λ n. next ahead.called (λ v. K (name_or_call c.args.self.now.at n v))) ∙ moves.called_there _ _ (λ v. K (name_or_call c.args.self.now.at c.in_ok-name.name v)) _ (sym c.is_next.ensures ∙ c.if-not-is_next.false) ∙ c.in_ok-inner.ensures.runs (next ahead.args (λ v. fixed Close (K (name_or_call c.args.self.now.at c.in_ok-name.name (Some v))))) ∙ c.in_ok-args.ensures.runs (λ v. fixed Close (K (name_or_call c.args.self.now.at c.in_ok-name.name (Some v))))) (c.in_err-expect.ensures.runs (c.in_ok-inner.inner, 0) (K (name_or_call c.args.self.now.at c.in_ok-name.name (Some (map arg_of c.in_ok-args.args.items)))) refl)

pub named-returns-clause-runs : goal.named-returns-clause-runs
named-returns-clause-runs t c = λ K. c.in_ok-name.ensures.runs (c.args.level, 0) (λ n. next ahead.called (λ v. K (name_or_call c.args.self.now.at n v))) ∙ moves.called_there _ _ (λ v. K (name_or_call c.args.self.now.at c.in_ok-name.name v)) _ (sym c.is_next.ensures ∙ c.if-not-is_next.false) ∙ c.in_ok-inner.ensures.runs (next ahead.args (λ v. fixed Close (K (name_or_call c.args.self.now.at c.in_ok-name.name (Some v))))) ∙ c.in_ok-args.ensures.runs (λ v. fixed Close (K (name_or_call c.args.self.now.at c.in_ok-name.name (Some v)))) ∙ c.in_ok-expect.ensures.runs (c.in_ok-inner.inner, 0) (K (name_or_call c.args.self.now.at c.in_ok-name.name (Some (map arg_of c.in_ok-args.args.items)))) refl ∙ level_closed _ _ _ _ _ c.in_ok-inner.ensures.inner.0 ∙ value_read _ _ _ K _ _ (tree_of_Call _ _ _ ∙ ap (λ xs. call c.args.self.now.at c.in_ok-name.name (arguments (map arg_of xs))) c.from_vec.ensures)

pub arg-returns-in_err-expr-clause-runs : goal.arg-returns-in_err-expr-clause-runs
arg-returns-in_err-expr-clause-runs t c = λ K. fails _ _ _ _ _ _ _ _ _ _ c.from_residual.ensures _ (moves.arg_one _ _ K _ (sym c.is_next.ensures ∙ c.if-not-is_next.true)) (c.in_err-expr.ensures.runs (λ v. K (one v)))

pub arg-returns-then-not-is_next-clause-runs : goal.arg-returns-then-not-is_next-clause-runs
arg-returns-then-not-is_next-clause-runs t c = λ K. moves.arg_one _ _ K _ (sym c.is_next.ensures ∙ c.if-not-is_next.true) ∙ c.in_ok-expr.ensures.runs (λ v. K (one v)) ∙ value_read _ _ _ K _ _ (arg_of_One _)

pub arg-returns-in_err-expect-clause-runs : goal.arg-returns-in_err-expect-clause-runs
arg-returns-in_err-expect-clause-runs t c = λ K. fails _ _ _ _ _ _ _ _ _ _ c.from_residual-in_err-expect.ensures _ (moves.arg_each _ _ K _ (sym c.is_next.ensures ∙ c.if-not-is_next.false)) (c.in_err-expect.ensures.runs (c.args.level, 0) (range (λ n from to. next ahead.args (λ v. fixed Close (K (each_arg c.args.self.now.at n from to (arguments v)))))) refl)

pub arg-returns-in_err-range-clause-runs : goal.arg-returns-in_err-range-clause-runs
arg-returns-in_err-range-clause-runs t c = λ K. fails _ _ _ _ _ _ _ _ _ _ c.from_residual-in_err-range.ensures _ (moves.arg_each _ _ K _ (sym c.is_next.ensures ∙ c.if-not-is_next.false) ∙ c.in_ok-expect.ensures.runs (c.args.level, 0) (range (λ n from to. next ahead.args (λ v. fixed Close (K (each_arg c.args.self.now.at n from to (arguments v)))))) refl) (c.in_err-range.ensures.runs (λ n from to. next ahead.args (λ v. fixed Close (K (each_arg c.args.self.now.at n from to (arguments v))))))

pub arg-returns-in_err-args-clause-runs : goal.arg-returns-in_err-args-clause-runs
arg-returns-in_err-args-clause-runs t c = λ K. fails _ _ _ _ _ _ _ _ _ _ c.from_residual-in_err-args.ensures _ (moves.arg_each _ _ K _ (sym c.is_next.ensures ∙ c.if-not-is_next.false) ∙ c.in_ok-expect.ensures.runs (c.args.level, 0) (range (λ n from to. next ahead.args (λ v. fixed Close (K (each_arg c.args.self.now.at n from to (arguments v)))))) refl ∙ c.in_ok-range.ensures.runs (λ n from to. next ahead.args (λ v. fixed Close (K (each_arg c.args.self.now.at n from to (arguments v)))))) (c.in_err-args.ensures.runs (λ v. fixed Close (K (each_arg c.args.self.now.at c.in_ok-range.range.name (index_of c.in_ok-range.range.from) (index_of c.in_ok-range.range.to) (arguments v)))))

pub arg-returns-in_err-expect-2-clause-runs : goal.arg-returns-in_err-expect-2-clause-runs
arg-returns-in_err-expect-2-clause-runs t c = λ K. fails _ _ _ _ _ _ _ _ _ _ c.from_residual-in_err-expect-2.ensures _ (moves.arg_each _ _ K _ (sym c.is_next.ensures ∙ c.if-not-is_next.false) ∙ c.in_ok-expect.ensures.runs (c.args.level, 0) (range (λ n from to. next ahead.args (λ v. fixed Close (K (each_arg c.args.self.now.at n from to (arguments v)))))) refl ∙ c.in_ok-range.ensures.runs (λ n from to. next ahead.args (λ v. fixed Close (K (each_arg c.args.self.now.at n from to (arguments v))))) ∙ c.in_ok-args.ensures.runs (λ v. fixed Close (K (each_arg c.args.self.now.at c.in_ok-range.range.name (index_of c.in_ok-range.range.from) (index_of c.in_ok-range.range.to) (arguments v))))) (c.in_err-expect-2.ensures.runs (c.in_ok-range.range.inner, 0) (K (each_arg c.args.self.now.at c.in_ok-range.range.name (index_of c.in_ok-range.range.from) (index_of c.in_ok-range.range.to) (arguments (map arg_of c.in_ok-args.args.items)))) refl)

pub arg-returns-clause-runs : goal.arg-returns-clause-runs
arg-returns-clause-runs t c = λ K. moves.arg_each _ _ K _ (sym c.is_next.ensures ∙ c.if-not-is_next.false) ∙ c.in_ok-expect.ensures.runs (c.args.level, 0) (range (λ n from to. next ahead.args (λ v. fixed Close (K (each_arg c.args.self.now.at n from to (arguments v)))))) refl ∙ c.in_ok-range.ensures.runs (λ n from to. next ahead.args (λ v. fixed Close (K (each_arg c.args.self.now.at n from to (arguments v))))) ∙ c.in_ok-args.ensures.runs (λ v. fixed Close (K (each_arg c.args.self.now.at c.in_ok-range.range.name (index_of c.in_ok-range.range.from) (index_of c.in_ok-range.range.to) (arguments v)))) ∙ c.in_ok-expect-2.ensures.runs (c.in_ok-range.range.inner, 0) (K (each_arg c.args.self.now.at c.in_ok-range.range.name (index_of c.in_ok-range.range.from) (index_of c.in_ok-range.range.to) (arguments (map arg_of c.in_ok-args.args.items)))) refl ∙ level_closed _ _ _ _ _ c.in_ok-range.ensures.inner.0 ∙ value_read _ _ _ K _ _ (arg_of_Each _ _ _ _ _ ∙ ap (λ xs. each_arg c.args.self.now.at c.in_ok-range.range.name (index_of c.in_ok-range.range.from) (index_of c.in_ok-range.range.to) (arguments (map arg_of xs))) c.from_vec.ensures)
