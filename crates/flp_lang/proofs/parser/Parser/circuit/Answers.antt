use Rattle.std.proofs.Common.{◌∙◌, refl, sym}
use Rattle.flp_lang.specs.Ahead as ahead
use Rattle.flp_lang.specs.Ahead.{Ahead, done, next, fixed, range}
use Rattle.flp_syntax.specs.Tree.{standard, program}
use Rattle.flp_lang.proofs.Moves as moves
use Rattle.flp_lang.proofs.Moves.{fails, level_closed, value_read, more_read, all_read, one_read, list_read, along}
use Rattle.flp_lang.proofs.parser.Parser.circuit.Goals as goal

pub returns-in_err-expect : goal.returns-in_err-expect
returns-in_err-expect c = λ K. fails _ _ _ _ _ _ _ _ _ _ c.from_residual.ensures _ (moves.circuit_use _ _ K _ (sym c.is_next.ensures ∙ c.if-is_next.true)) (c.in_err-expect.ensures.runs (0, 0) (next ahead.standard_tail (λ v. K (standard v))) refl)

pub returns-in_err-params : goal.returns-in_err-params
returns-in_err-params c = λ K. fails _ _ _ _ _ _ _ _ _ _ c.from_residual-in_err-params.ensures _ (moves.circuit_use _ _ K _ (sym c.is_next.ensures ∙ c.if-is_next.true) ∙ c.in_ok-expect.ensures.runs (0, 0) (next ahead.standard_tail (λ v. K (standard v))) refl) (c.in_err-params.ensures (λ v. K (standard v)))

pub returns-then-is_next : goal.returns-then-is_next
returns-then-is_next c = λ K. moves.circuit_use _ _ K _ (sym c.is_next.ensures ∙ c.if-is_next.true) ∙ c.in_ok-expect.ensures.runs (0, 0) (next ahead.standard_tail (λ v. K (standard v))) refl ∙ c.in_ok-params.ensures (λ v. K (standard v))

pub returns-in_err-body : goal.returns-in_err-body
returns-in_err-body c = λ K. fails _ _ _ _ _ _ _ _ _ _ c.from_residual-in_err-body.ensures _ (moves.circuit_body _ _ K _ (sym c.is_next.ensures ∙ c.if-is_next.false)) (c.in_err-body.ensures (λ v. K (program v)))

pub returns : goal.returns
returns c = λ K. moves.circuit_body _ _ K _ (sym c.is_next.ensures ∙ c.if-is_next.false) ∙ c.in_ok-body.ensures (λ v. K (program v))
