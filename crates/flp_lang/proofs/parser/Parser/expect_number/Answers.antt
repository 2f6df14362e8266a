use Rattle.flp_lang.proofs.Moves.{number_there, number_missing}
use Rattle.flp_lang.proofs.parser.Parser.expect_number.Goals as goal

pub returns-in-Some-clause-runs : goal.returns-in-Some-clause-runs
returns-in-Some-clause-runs c = λ l K. number_there l _ _ _ K _ _ c.in-Some.ensures.taken.0 c.in-Some.ensures.taken.1

pub returns-in-None-clause-runs : goal.returns-in-None-clause-runs
returns-in-None-clause-runs c = λ l K. number_missing l _ K _ c.in-None.ensures.taken.0
