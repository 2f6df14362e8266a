use Rattle.flp_lang.proofs.Moves.{name_there, name_missing}
use Rattle.flp_lang.proofs.parser.Parser.expect_name.Goals as goal

pub returns-in-Ok-Some-clause-runs : goal.returns-in-Ok-Some-clause-runs
returns-in-Ok-Some-clause-runs c = λ l K. let e = rw c.in-Ok-Some.field-0-is at c.in-Ok-Some.ensures.taken in name_there l _ _ _ K _ _ e.0 e.1

pub returns-in-Ok-None-clause-runs : goal.returns-in-Ok-None-clause-runs
returns-in-Ok-None-clause-runs c = λ l K. let e = rw c.in-Ok-None.field-0-is at c.in-Ok-None.ensures.taken in name_missing l _ K _ e.0
