use Rattle.std.proofs.Common.{◌∙◌}
use Rattle.flp_lang.proofs.Moves as moves
use Rattle.flp_lang.proofs.Moves.{fails, level_closed, value_read, more_read, all_read, one_read, list_read, along}
use Rattle.flp_lang.proofs.parser.Parser.coef.Goals as goal

pub returns-in_err-size-clause-runs : goal.returns-in_err-size-clause-runs
returns-in_err-size-clause-runs c = λ l K. fails _ _ _ _ _ _ _ _ _ _ c.from_residual.ensures _ (moves.coef_head _ _ _ c.eat-minus.result K _ _ c.eat-minus.ensures.eaten) (c.in_err-size.ensures.runs l (λ n. K (record { minus = c.eat-minus.result; size = n })))

pub returns-clause-runs : goal.returns-clause-runs
returns-clause-runs c = λ l K. moves.coef_head _ _ _ c.eat-minus.result K _ _ c.eat-minus.ensures.eaten ∙ c.in_ok-size.ensures.runs l (λ n. K (record { minus = c.eat-minus.result; size = n }))
