use Rattle.std.proofs.Common.{arith, ◌∙◌, refl, sym, ap, ◌++◌, [], ◌∷◌, map, List}
use Rattle.flp_lang.specs.Ahead as ahead
use Rattle.flp_lang.specs.Ahead.{Ahead, done, next, fixed, range}
use Rattle.flp_syntax.specs.Tree.{Statement, each, statements}
use Rattle.flp_syntax.specs.View.{index_of, statement_of, statement_of_Each}
use Rattle.flp_syntax.specs.declared.token.Mark.TheVariants.{Close}
use Rattle.flp_lang.proofs.Moves as moves
use Rattle.flp_lang.proofs.Moves.{fails, level_closed, value_read, more_read, all_read, one_read, list_read, along}
use Rattle.flp_lang.proofs.parser.Parser.+stmt.Goals as goal

pub stmts-returns-in_err-first-clause-runs : goal.stmts-returns-in_err-first-clause-runs
stmts-returns-in_err-first-clause-runs t c = λ K. fails _ _ _ _ _ _ _ _ _ _ c.from_residual.ensures _ (moves.stmts_head _ _ K _) (c.in_err-first.ensures.runs (λ v. next ahead.more_stmts (λ more. K (v ∷ more))))

pub stmts-loop-self-init : goal.stmts-loop-self-init
stmts-loop-self-init t c = record {
  runs = λ K. moves.stmts_head _ _ K _ ∙ c.in_ok-first.ensures.runs (λ v. next ahead.more_stmts (λ more. K (v ∷ more)))
      ∙ more_read statement_of (next ahead.more_stmts) _ _ _ K [] _ c.in_ok-first.first _ refl (c.in_ok-push.ensures.items ∙ ap (λ xs. xs ++ c.in_ok-first.first ∷ []) c.new-stmts.ensures.items);
  left = omega (arith, c.in_ok-first.ensures.left);
}

pub stmts-returns-in_err-stmt-clause-runs : goal.stmts-returns-in_err-stmt-clause-runs
stmts-returns-in_err-stmt-clause-runs t c = λ K.
    let K' = λ (more : List Statement). K (map statement_of c.loop-self.stmts.items ++ more) in
    fails _ _ _ _ _ _ _ _ _ _ c.from_residual-in_err-stmt.ensures _ (c.loop-self.invariant.runs K ∙ moves.more_stmts_more _ _ K' _ (sym c.starts_stmt.ensures ∙ c.loop-self-test.true)) (c.in_err-stmt.ensures.runs (λ v. next ahead.more_stmts (λ more. K' (v ∷ more))))

pub stmts-loop-self-preserved : goal.stmts-loop-self-preserved
stmts-loop-self-preserved t c = record {
  runs = λ K.
      let K' = λ (more : List Statement). K (map statement_of c.loop-self.stmts.items ++ more) in
      c.loop-self.invariant.runs K ∙ moves.more_stmts_more _ _ K' _ (sym c.starts_stmt.ensures ∙ c.loop-self-test.true) ∙ c.in_ok-stmt.ensures.runs (λ v. next ahead.more_stmts (λ more. K' (v ∷ more)))
      ∙ more_read statement_of (next ahead.more_stmts) _ _ _ K _ _ _ _ refl c.in_ok-push-2.ensures.items;
  left = omega (arith, c.in_ok-stmt.ensures.left, c.loop-self.invariant.left);
}

pub stmts-returns-clause-runs : goal.stmts-returns-clause-runs
stmts-returns-clause-runs t c = λ K. c.loop-self.invariant.runs K ∙ moves.more_stmts_end _ _ _ _ (sym c.starts_stmt.ensures ∙ c.loop-self-test.false) ∙ all_read statement_of _ _ _ _ _ K _ refl refl

pub stmt-returns-then-is_next-clause-runs : goal.stmt-returns-then-is_next-clause-runs
stmt-returns-then-is_next-clause-runs t c = λ K. along _ _ _ _ _ _ _ _ _ _ (moves.stmt_check _ _ K _ (sym c.is_next.ensures ∙ c.if-is_next.true)) (c.check.ensures.runs K)

pub stmt-returns-then-is_next-2-clause-runs : goal.stmt-returns-then-is_next-2-clause-runs
stmt-returns-then-is_next-2-clause-runs t c = λ K. along _ _ _ _ _ _ _ _ _ _ (moves.stmt_out _ _ K _ (sym c.is_next-2.ensures ∙ c.if-is_next-2.true)) (c.out.ensures.runs K)

pub stmt-returns-clause-runs : goal.stmt-returns-clause-runs
stmt-returns-clause-runs t c = λ K. along _ _ _ _ _ _ _ _ _ _ (moves.stmt_each _ _ K _ (sym c.is_next.ensures ∙ c.if-is_next.false) (sym c.is_next-2.ensures ∙ c.if-is_next-2.false)) (c.each.ensures.runs K)

pub each-returns-clause-runs : goal.each-returns-clause-runs
each-returns-clause-runs t c = λ K.
    c.in_ok-expect.ensures.runs (c.args.level, 0) (range (λ n from to. next ahead.stmts (λ v. fixed Close (K (each c.args.self.now.at n from to (statements v)))))) refl
    ∙ c.in_ok-range.ensures.runs (λ n from to. next ahead.stmts (λ v. fixed Close (K (each c.args.self.now.at n from to (statements v)))))
    ∙ c.in_ok-stmts.ensures.runs (λ v. fixed Close (K (each c.args.self.now.at c.in_ok-range.range.name (index_of c.in_ok-range.range.from) (index_of c.in_ok-range.range.to) (statements v))))
    ∙ c.in_ok-expect-2.ensures.runs (c.in_ok-range.range.inner, 0) (K (each c.args.self.now.at c.in_ok-range.range.name (index_of c.in_ok-range.range.from) (index_of c.in_ok-range.range.to) (statements (map statement_of c.in_ok-stmts.stmts.items)))) refl
    ∙ level_closed _ _ _ _ _ c.in_ok-range.ensures.inner.0
    ∙ value_read _ _ _ K _ _ (statement_of_Each _ _ _ _ _ ∙ ap (λ xs. each c.args.self.now.at c.in_ok-range.range.name (index_of c.in_ok-range.range.from) (index_of c.in_ok-range.range.to) (statements (map statement_of xs))) c.from_vec.ensures)
