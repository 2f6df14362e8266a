use Rattle.std.proofs.Common.{◌≡◌, ◌<◌, drop}
use Rattle.flp_field.specs.Word.{modulus}
use Rattle.flp_syntax.specs.Tokens.{digits_value, digits_from}
use Rattle.flp_lang.proofs.lexer.number_of.Given as goal

-- the digits so far have this value, and the rest goes on from it
abbrev pub invariant-loop-digit : goal.invariant-loop-digit
invariant-loop-digit l = record { below : l.value < modulus; same : digits_from l.value (drop l.digit-index l.digits) ≡ digits_value l.digits }
