use Rattle.std.proofs.Common.{◌∙◌, refl}
use Rattle.flp_lang.specs.Ahead as ahead
use Rattle.flp_lang.specs.Ahead.{Ahead, next, fixed}
use Rattle.flp_syntax.specs.View.{index_of}
use Rattle.flp_syntax.specs.declared.token.Mark.TheVariants.{CloseBracket}
use Rattle.flp_lang.proofs.Moves.{fails, level_closed}
use Rattle.flp_lang.proofs.parser.Parser.bracketed.Goals as goal

pub returns-in_err-inner-clause-runs : goal.returns-in_err-inner-clause-runs
returns-in_err-inner-clause-runs c = λ K. fails _ _ _ _ _ _ _ _ _ _ c.from_residual.ensures _ (refl) (c.in_err-inner.ensures.runs (next ahead.index (λ v. fixed CloseBracket (K v))))

pub returns-in_err-index-clause-runs : goal.returns-in_err-index-clause-runs
returns-in_err-index-clause-runs c = λ K. fails _ _ _ _ _ _ _ _ _ _ c.from_residual-in_err-index.ensures _ (c.in_ok-inner.ensures.runs (next ahead.index (λ v. fixed CloseBracket (K v)))) (c.in_err-index.ensures.runs (λ v. fixed CloseBracket (K v)))

pub returns-in_err-expect-clause-runs : goal.returns-in_err-expect-clause-runs
returns-in_err-expect-clause-runs c = λ K. fails _ _ _ _ _ _ _ _ _ _ c.from_residual-in_err-expect.ensures _ (c.in_ok-inner.ensures.runs (next ahead.index (λ v. fixed CloseBracket (K v))) ∙ c.in_ok-index.ensures.runs (λ v. fixed CloseBracket (K v))) (c.in_err-expect.ensures.runs (c.in_ok-inner.inner, 0) (K (index_of c.in_ok-index.index)) refl)

pub returns-clause-runs : goal.returns-clause-runs
returns-clause-runs c = λ K. c.in_ok-inner.ensures.runs (next ahead.index (λ v. fixed CloseBracket (K v))) ∙ c.in_ok-index.ensures.runs (λ v. fixed CloseBracket (K v)) ∙ c.in_ok-expect.ensures.runs (c.in_ok-inner.inner, 0) (K (index_of c.in_ok-index.index)) refl ∙ level_closed _ _ _ _ _ c.in_ok-inner.ensures.inner.0
