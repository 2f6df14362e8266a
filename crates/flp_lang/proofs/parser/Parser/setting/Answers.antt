use Rattle.std.proofs.Common.{◌∙◌, refl}
use Rattle.flp_lang.specs.Ahead as ahead
use Rattle.flp_lang.specs.Ahead.{Ahead, done, next, fixed, range}
use Rattle.flp_lang.proofs.Moves as moves
use Rattle.flp_lang.proofs.Moves.{fails, level_closed, value_read, more_read, all_read, one_read, list_read, along}
use Rattle.flp_lang.proofs.parser.Parser.setting.Goals as goal

pub returns-then-not-word : goal.returns-then-not-word
returns-then-not-word c = λ K. let e = rw c.if-not-word.true at c.word.ensures.taken in moves.setting_missing _ _ _ K _ e

pub returns-in_err-expect : goal.returns-in_err-expect
returns-in_err-expect c = λ K. let e = rw c.if-not-word.false at c.word.ensures.taken in fails _ _ _ _ _ _ _ _ _ _ c.from_residual.ensures _ (moves.setting_there _ _ _ _ K _ _ e.0 e.1) (c.in_err-expect.ensures.runs (0, 0) (next ahead.a_numeral K) refl)

pub returns-in_err-value : goal.returns-in_err-value
returns-in_err-value c = λ K. let e = rw c.if-not-word.false at c.word.ensures.taken in fails _ _ _ _ _ _ _ _ _ _ c.from_residual-in_err-value.ensures _ (moves.setting_there _ _ _ _ K _ _ e.0 e.1 ∙ c.in_ok-expect.ensures.runs (0, 0) (next ahead.a_numeral K) refl) (c.in_err-value.ensures.runs (0, 0) K)

pub returns : goal.returns
returns c = λ K. let e = rw c.if-not-word.false at c.word.ensures.taken in moves.setting_there _ _ _ _ K _ _ e.0 e.1 ∙ c.in_ok-expect.ensures.runs (0, 0) (next ahead.a_numeral K) refl ∙ c.in_ok-value.ensures.runs (0, 0) K ∙ value_read _ _ _ K _ _ c.value.ensures.same
