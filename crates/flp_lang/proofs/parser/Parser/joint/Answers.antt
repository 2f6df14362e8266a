use Rattle.std.proofs.Common.{◌∙◌, refl}
use Rattle.flp_lang.specs.Ahead as ahead
use Rattle.flp_lang.specs.Ahead.{Ahead, next, fixed, range, name_or_call, meas_at}
use Rattle.flp_syntax.specs.Tree.{joint}
use Rattle.flp_syntax.specs.View.{tree_of_Joint}
use Rattle.flp_syntax.specs.declared.token.Mark.TheVariants.{OpenBracket, CloseBracket}
use Rattle.flp_lang.proofs.Moves.{fails, value_read}
use Rattle.flp_lang.proofs.parser.Parser.joint.Goals as goal

pub returns-in_err-index-clause-runs : goal.returns-in_err-index-clause-runs
returns-in_err-index-clause-runs c = λ K. fails _ _ _ _ _ _ _ _ _ _ c.from_residual-in_err-index.ensures _ (c.in_ok-expect.ensures.runs (c.args.level, 0) (fixed OpenBracket (next ahead.index (λ v. fixed CloseBracket (K (joint c.args.self.now.at v))))) refl) (c.in_err-index.ensures.runs (λ v. K (joint c.args.self.now.at v)))

pub returns-clause-runs : goal.returns-clause-runs
returns-clause-runs c = λ K. c.in_ok-expect.ensures.runs (c.args.level, 0) (fixed OpenBracket (next ahead.index (λ v. fixed CloseBracket (K (joint c.args.self.now.at v))))) refl ∙ c.in_ok-index.ensures.runs (λ v. K (joint c.args.self.now.at v)) ∙ value_read _ _ _ K _ _ (tree_of_Joint _ _)
