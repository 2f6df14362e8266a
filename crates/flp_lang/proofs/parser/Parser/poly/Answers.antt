use Rattle.std.proofs.Common.{arith, ◌∙◌, refl, sym, ap, ◌++◌, [], ◌∷◌, List}
use Rattle.flp_lang.specs.Ahead as ahead
use Rattle.flp_lang.specs.Ahead.{Ahead, done, next, fixed, range}
use Rattle.flp_syntax.specs.Tree.{poly_kind}
use Rattle.flp_syntax.specs.declared.syntax.Coef.{Coef}
use Rattle.flp_lang.proofs.Moves as moves
use Rattle.flp_lang.proofs.Moves.{fails, level_closed, value_read, more_read, all_read, one_read, list_read, along}
use Rattle.flp_lang.proofs.parser.Parser.poly.Goals as goal

pub loop-self-init : goal.loop-self-init
loop-self-init c = record {
  runs = λ K. c.in_ok-expect.ensures.runs (0, c.args.level) (next ahead.coef (λ v. next ahead.more_coefs (λ more. K (poly_kind (v ∷ more))))) refl ∙ c.in_ok-first.ensures.runs (0, c.args.level) (λ v. next ahead.more_coefs (λ more. K (poly_kind (v ∷ more))))
      ∙ one_read (next ahead.more_coefs) _ _ _ (λ xs. K (poly_kind xs)) [] _ c.in_ok-first.first (c.in_ok-push.ensures.items ∙ ap (λ xs. xs ++ c.in_ok-first.first ∷ []) c.new-coefs.ensures.items);
  left = omega (arith, c.in_ok-first.ensures.left, c.in_ok-expect.ensures.left);
}

pub returns-in_err-coef-clause-runs : goal.returns-in_err-coef-clause-runs
returns-in_err-coef-clause-runs c = λ K.
    let K' = λ (more : List Coef). K (poly_kind (c.loop-self.coefs.items ++ more)) in
    fails _ _ _ _ _ _ _ _ _ _ c.from_residual-in_err-coef.ensures _ (c.loop-self.invariant.runs K ∙ moves.more_coefs_more _ _ K' _ (sym c.starts_coef.ensures ∙ c.loop-self-test.true)) (c.in_err-coef.ensures.runs (0, c.args.level) (λ v. next ahead.more_coefs (λ more. K' (v ∷ more))))

pub loop-self-preserved : goal.loop-self-preserved
loop-self-preserved c = record {
  runs = λ K.
      let K' = λ (more : List Coef). K (poly_kind (c.loop-self.coefs.items ++ more)) in
      c.loop-self.invariant.runs K ∙ moves.more_coefs_more _ _ K' _ (sym c.starts_coef.ensures ∙ c.loop-self-test.true) ∙ c.in_ok-coef.ensures.runs (0, c.args.level) (λ v. next ahead.more_coefs (λ more. K' (v ∷ more)))
      ∙ one_read (next ahead.more_coefs) _ _ _ (λ xs. K (poly_kind xs)) _ _ _ c.in_ok-push-2.ensures.items;
  left = omega (arith, c.in_ok-coef.ensures.left, c.loop-self.invariant.left);
}

pub returns-clause-runs : goal.returns-clause-runs
returns-clause-runs c = λ K. c.loop-self.invariant.runs K ∙ moves.more_coefs_end _ _ _ _ (sym c.starts_coef.ensures ∙ c.loop-self-test.false) ∙ list_read _ _ _ (λ xs. K (poly_kind xs)) _
