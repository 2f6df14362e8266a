use Rattle.std.proofs.Common.{◌∙◌, refl}
use Rattle.flp_lang.specs.Ahead.{fixed}
use Rattle.flp_syntax.specs.declared.syntax.Params.TheVariants as params
use Rattle.flp_syntax.specs.declared.token.Mark.TheVariants.{Semicolon}
use Rattle.flp_lang.proofs.Moves.{fails}
use Rattle.flp_lang.proofs.parser.Parser.sum_circuit.Goals as goal

pub returns-in_err-expect : goal.returns-in_err-expect
returns-in_err-expect c = λ K. fails _ _ _ _ _ _ _ _ _ _ c.from_residual-in_err-expect.ensures _ (c.in_ok-max.ensures (λ x0. fixed Semicolon (K (params.Sum x0)))) (c.in_err-expect.ensures.runs (0, 0) (K (params.Sum c.in_ok-max.max)) refl)

pub returns : goal.returns
returns c = λ K. c.in_ok-max.ensures (λ x0. fixed Semicolon (K (params.Sum x0))) ∙ c.in_ok-expect.ensures.runs (0, 0) (K (params.Sum c.in_ok-max.max)) refl
