use Rattle.flp_syntax.specs.View.{program_of}
use Rattle.flp_lang.specs.Print.{put_params, put_body}
use Rattle.flp_lang.proofs.Writing.{wrote_all}
use Rattle.flp_syntax.specs.declared.token.Mark.TheVariants.{Use, Meas}
use Rattle.flp_lang.proofs.printer.Printer.circuit.Goals as goal

pub returns-in_ok-params-in-Standard : goal.returns-in_ok-params-in-Standard
returns-in_ok-params-in-Standard c = rw c.in-Standard.is (wrote_all Use _ _ (put_params c.in-Standard.params) c.in_ok-printer-in-Standard.ensures c.in_ok-params-in-Standard.ensures)

pub returns-in_ok-body-in-Body : goal.returns-in_ok-body-in-Body
returns-in_ok-body-in-Body c = rw c.in-Body.is (wrote_all Meas _ _ (put_body (program_of c.in-Body.body)) c.in_ok-printer-in-Body.ensures c.in_ok-body-in-Body.ensures)
