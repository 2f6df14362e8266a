use Rattle.std.proofs.Common.{◌∙◌}
use Rattle.flp_syntax.specs.declared.token.Token.TheVariants.{Number}
use Rattle.flp_lang.proofs.Writing.{wrote_word}
use Rattle.flp_lang.proofs.printer.Printer.number.Goals as goal

pub returns : goal.returns
returns c = wrote_word _ _ _ _ (Number c.args.value) (c.as_bytes.ensures.value ∙ c.format.ensures.text) c.word.ensures
