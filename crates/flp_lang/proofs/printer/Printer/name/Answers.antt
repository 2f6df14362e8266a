use Rattle.std.proofs.Common.{refl}
use Rattle.flp_syntax.specs.declared.token.Token.TheVariants.{Name}
use Rattle.flp_lang.proofs.Writing.{wrote_word}
use Rattle.flp_lang.proofs.printer.Printer.name.Goals as goal

pub returns : goal.returns
returns c = wrote_word _ _ _ _ (Name c.args.name.now) refl c.word.ensures
