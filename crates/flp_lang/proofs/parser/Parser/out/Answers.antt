use Rattle.std.proofs.Common.{◌∙◌, refl}
use Rattle.flp_lang.specs.Ahead as ahead
use Rattle.flp_lang.specs.Ahead.{Ahead, done, next, fixed, range}
use Rattle.flp_syntax.specs.Tree.{out}
use Rattle.flp_syntax.specs.View.{tree_of, statement_of_Out}
use Rattle.flp_syntax.specs.declared.token.Mark.TheVariants.{Semicolon}
use Rattle.flp_lang.proofs.Moves.{value_read}
use Rattle.flp_lang.proofs.parser.Parser.out.Goals as goal

pub returns-clause-runs : goal.returns-clause-runs
returns-clause-runs c = λ K. c.in_ok-expect.ensures.runs (c.args.level, 0) (next ahead.expr (λ v. fixed Semicolon (K (out c.args.self.now.at v)))) refl ∙ c.in_ok-expr.ensures.runs (λ v. fixed Semicolon (K (out c.args.self.now.at v))) ∙ c.in_ok-expect-2.ensures.runs (c.args.level, 0) (K (out c.args.self.now.at (tree_of c.in_ok-expr.expr))) refl ∙ value_read _ _ _ K _ _ (statement_of_Out _ _)
