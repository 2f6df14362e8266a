use Rattle.std.proofs.Common.{◌∙◌, refl, sym, ap, ◌++◌, [], ◌∷◌, map, List}
use Rattle.flp_lang.specs.Ahead as ahead
use Rattle.flp_lang.specs.Ahead.{Ahead, done, next, fixed, range}
use Rattle.flp_syntax.specs.Tree.{Declaration}
use Rattle.flp_syntax.specs.View.{declaration_of}
use Rattle.flp_lang.proofs.Moves as moves
use Rattle.flp_lang.proofs.Moves.{fails, level_closed, value_read, more_read, all_read, one_read, list_read, along}
use Rattle.flp_lang.proofs.parser.Parser.decls.Goals as goal

pub loop-self-init : goal.loop-self-init
loop-self-init c = record {
  runs = λ K. c.in_ok-first.ensures.runs (λ v. next ahead.more_decls (λ more. K (v ∷ more)))
      ∙ more_read declaration_of (next ahead.more_decls) _ _ _ K [] _ c.in_ok-first.first _ refl (c.in_ok-push.ensures.items ∙ ap (λ xs. xs ++ c.in_ok-first.first ∷ []) c.new-decls.ensures.items);
}

pub returns-in_err-decl : goal.returns-in_err-decl
returns-in_err-decl c = λ K.
    let K' = λ (more : List Declaration). K (map declaration_of c.loop-self.decls.items ++ more) in
    fails _ _ _ _ _ _ _ _ _ _ c.from_residual-in_err-decl.ensures _ (c.loop-self.invariant.runs K ∙ moves.more_decls_more _ _ K' _ (sym c.is_next.ensures ∙ c.loop-self-test.true)) (c.in_err-decl.ensures.runs (λ v. next ahead.more_decls (λ more. K' (v ∷ more))))

pub loop-self-preserved : goal.loop-self-preserved
loop-self-preserved c = record {
  runs = λ K.
      let K' = λ (more : List Declaration). K (map declaration_of c.loop-self.decls.items ++ more) in
      c.loop-self.invariant.runs K ∙ moves.more_decls_more _ _ K' _ (sym c.is_next.ensures ∙ c.loop-self-test.true) ∙ c.in_ok-decl.ensures.runs (λ v. next ahead.more_decls (λ more. K' (v ∷ more)))
      ∙ more_read declaration_of (next ahead.more_decls) _ _ _ K _ _ _ _ refl c.in_ok-push-2.ensures.items;
}

pub returns : goal.returns
returns c = λ K. c.loop-self.invariant.runs K ∙ moves.more_decls_end _ _ _ _ (sym c.is_next.ensures ∙ c.loop-self-test.false) ∙ all_read declaration_of _ _ _ _ _ K _ refl refl
