use Rattle.flp_lang.proofs.Moves.{mark_there, mark_missing}
use Rattle.flp_lang.proofs.parser.Parser.expect.Goals as goal

pub returns-then-eat-clause-runs : goal.returns-then-eat-clause-runs
returns-then-eat-clause-runs c = λ l P h. let e = rw c.if-eat.true at c.eat.ensures.eaten in mark_there l _ _ _ P _ _ e.0 e.1 h

pub returns-clause-runs : goal.returns-clause-runs
returns-clause-runs c = λ l P h. let e = rw c.if-eat.false at c.eat.ensures.eaten in mark_missing l _ _ P _ e.0
