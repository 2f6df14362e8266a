use Rattle.flp_syntax.specs.View.{text_of}
use Rattle.flp_lang.specs.Print.{put_text}
use Rattle.flp_lang.proofs.Writing.{wrote_text}
use Rattle.flp_lang.proofs.ReadBack.{bytes_read_back}
use Rattle.flp_lang.proofs.printer_text.print.Goals as goal

pub returns-clause-text : goal.returns-clause-text
returns-clause-text c = wrote_text (put_text (text_of c.args.circuit.now)) _ _ c.in_ok-printer.ensures c.in_ok-push.ensures.items

pub returns-clause-read_back : goal.returns-clause-read_back
returns-clause-read_back c = bytes_read_back (text_of c.args.circuit.now) _ (wrote_text (put_text (text_of c.args.circuit.now)) _ _ c.in_ok-printer.ensures c.in_ok-push.ensures.items)
