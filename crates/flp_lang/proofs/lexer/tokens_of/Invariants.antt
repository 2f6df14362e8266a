use Rattle.std.proofs.Common.{◌+◌, ◌≤◌, length}
use Rattle.flp_syntax.specs.Tokens.{Reads}
use Rattle.flp_lang.proofs.lexer.tokens_of.Given as goal

-- the text is the tokens so far and the rest, and there are no more tokens than bytes
abbrev pub invariant-loop-rest : goal.invariant-loop-rest
invariant-loop-rest l = record { read : Reads l.text l.rest l.tokens.items; few : length l.tokens.items + length l.rest ≤ length l.text }

abbrev pub decreases-loop-rest : goal.decreases-loop-rest
decreases-loop-rest l = length l.rest
