use Rattle.std.proofs.Common.{arith}
use Rattle.flp_lang.proofs.Moves.{mark_missing, bracket_there, bracket_deep}
use Rattle.flp_lang.proofs.parser.Parser.open_bracket.Goals as goal

pub returns-then-not-eat-clause-runs : goal.returns-then-not-eat-clause-runs
returns-then-not-eat-clause-runs c = λ P. let e = rw c.if-not-eat.true at c.eat.ensures.eaten in mark_missing _ _ _ P _ e.0

pub returns-then-level-ge-MAX_DEPTH-clause-runs : goal.returns-then-level-ge-MAX_DEPTH-clause-runs
returns-then-level-ge-MAX_DEPTH-clause-runs c = λ P. let e = rw c.if-not-eat.false at c.eat.ensures.eaten in bracket_deep _ _ P _ _ e.0 (omega arith)

pub returns-clause-runs : goal.returns-clause-runs
returns-clause-runs c = λ P. let e = rw c.if-not-eat.false at c.eat.ensures.eaten in bracket_there _ _ _ _ P _ _ e.0 e.1 (omega arith) (omega arith)
