use Rattle.std.proofs.Common.{subst}
use Rattle.flp_load.specs.Fault.{IsLoadFault}
use Rattle.flp_lengths.proofs.ReadingLemmas.{load_fails}
use Rattle.flp_lengths.proofs.input.load_text.Goals as goal

pub returns-in-Err-Circuit-clause-refused : goal.returns-in-Err-Circuit-clause-refused
returns-in-Err-Circuit-clause-refused c = λ left left' read.
    load_fails left left' c.args.text.now c.in-Err-Circuit.fault read
    (subst (IsLoadFault c.args.text.now) c.in-Err-Circuit.field-0-is c.in-Err-Circuit.ensures.fault)
