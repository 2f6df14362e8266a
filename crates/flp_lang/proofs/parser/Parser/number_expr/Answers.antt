use Rattle.std.proofs.Common.{◌∙◌}
use Rattle.flp_syntax.specs.Tree.{number}
use Rattle.flp_syntax.specs.View.{tree_of_Number}
use Rattle.flp_lang.proofs.Moves.{value_read}
use Rattle.flp_lang.proofs.parser.Parser.number_expr.Goals as goal

pub returns-clause-runs : goal.returns-clause-runs
returns-clause-runs c = λ K. c.in_ok-value.ensures.runs (c.args.level, 0) (λ n. K (number c.args.self.now.at n)) ∙ value_read _ _ _ K _ _ (tree_of_Number _ _)
