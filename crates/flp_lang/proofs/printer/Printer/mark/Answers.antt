use Rattle.flp_syntax.specs.declared.token.Token.TheVariants.{Fixed}
use Rattle.flp_lang.proofs.Writing.{wrote_word}
use Rattle.flp_lang.proofs.printer.Printer.mark.Goals as goal

pub returns : goal.returns
returns c = wrote_word _ _ _ _ (Fixed c.args.mark) c.mark_text.ensures c.word.ensures
