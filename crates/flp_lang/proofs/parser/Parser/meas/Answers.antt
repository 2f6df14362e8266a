use Rattle.std.proofs.Common.{◌∙◌, refl}
use Rattle.flp_lang.specs.Ahead as ahead
use Rattle.flp_lang.specs.Ahead.{Ahead, next, fixed, range, name_or_call, meas_at}
use Rattle.flp_syntax.specs.View.{tree_of_Meas, tree_of_MeasOrZero}
use Rattle.flp_syntax.specs.declared.token.Mark.TheVariants.{OpenBracket, CloseBracket}
use Rattle.flp_lang.proofs.Moves as moves
use Rattle.flp_lang.proofs.Moves.{fails, level_closed, value_read, more_read, all_read, along}
use Rattle.flp_lang.proofs.parser.Parser.meas.Goals as goal

pub returns-in_err-index-clause-runs : goal.returns-in_err-index-clause-runs
returns-in_err-index-clause-runs c = λ K. fails _ _ _ _ _ _ _ _ _ _ c.from_residual-in_err-index.ensures _ (c.in_ok-expect.ensures.runs (c.args.level, 0) (next ahead.question (λ b. fixed OpenBracket (next ahead.index (λ v. fixed CloseBracket (K (meas_at c.args.self.now.at b v)))))) refl ∙ moves.question _ _ _ c.eat-or_zero.result (λ b. fixed OpenBracket (next ahead.index (λ v. fixed CloseBracket (K (meas_at c.args.self.now.at b v))))) _ _ c.eat-or_zero.ensures.eaten) (c.in_err-index.ensures.runs (λ v. K (meas_at c.args.self.now.at c.eat-or_zero.result v)))

pub returns-then-or_zero-clause-runs : goal.returns-then-or_zero-clause-runs
returns-then-or_zero-clause-runs c = λ K. c.in_ok-expect.ensures.runs (c.args.level, 0) (next ahead.question (λ b. fixed OpenBracket (next ahead.index (λ v. fixed CloseBracket (K (meas_at c.args.self.now.at b v)))))) refl ∙ moves.question _ _ _ c.eat-or_zero.result (λ b. fixed OpenBracket (next ahead.index (λ v. fixed CloseBracket (K (meas_at c.args.self.now.at b v))))) _ _ c.eat-or_zero.ensures.eaten ∙ c.in_ok-index.ensures.runs (λ v. K (meas_at c.args.self.now.at c.eat-or_zero.result v)) ∙ value_read _ _ _ K _ _ (rw c.if-or_zero.true (tree_of_MeasOrZero _ _))

pub returns-clause-runs : goal.returns-clause-runs
returns-clause-runs c = λ K. c.in_ok-expect.ensures.runs (c.args.level, 0) (next ahead.question (λ b. fixed OpenBracket (next ahead.index (λ v. fixed CloseBracket (K (meas_at c.args.self.now.at b v)))))) refl ∙ moves.question _ _ _ c.eat-or_zero.result (λ b. fixed OpenBracket (next ahead.index (λ v. fixed CloseBracket (K (meas_at c.args.self.now.at b v))))) _ _ c.eat-or_zero.ensures.eaten ∙ c.in_ok-index.ensures.runs (λ v. K (meas_at c.args.self.now.at c.eat-or_zero.result v)) ∙ value_read _ _ _ K _ _ (rw c.if-or_zero.false (tree_of_Meas _ _))
