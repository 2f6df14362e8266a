use Rattle.std.proofs.Common.{arith}
use Rattle.flp_field.specs.Word.{modulus}
use Rattle.flp_lang.proofs.Digits.{digits_value-past}
use Rattle.flp_lang.proofs.lexer.number_of.Goals as goal

pub returns-then-next-from : goal.returns-then-next-from
returns-then-next-from c = digits_value-past c.args.digits.now c.loop-digit.value c.loop-digit.digit-index 0 modulus (omega arith) c.loop-digit.invariant.same (omega arith)
