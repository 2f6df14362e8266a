use Rattle.std.proofs.Common.{◌≡◌, Some, length}
use Rattle.flp_io.proofs.ReadLemmas.{ReadsFrom-as}
use Rattle.flp_report.specs.Head.{start_fault}
use Rattle.flp_report.proofs.KnownLemmas.{IfSome-consumed}
use Rattle.flp_report.proofs.HeadLemmas.{start_fault-numbers}
use Rattle.flp_report.proofs.head.read_start.Goals as goal

pub returns-in-Err-check_numbers-clause-fault : goal.returns-in-Err-check_numbers-clause-fault
returns-in-Err-check_numbers-clause-fault g c =
    let base = length c.args.head.now in
    IfSome-consumed (λ bytes. start_fault c.args.letters.now base c.args.newest c.args.party bytes ≡ Some c.in-Err-check_numbers.fault) _ _ c.read_whole.new.buf c.in-Ok.ensures.bytes
    (λ rest. start_fault-numbers c.args.letters.now base c.args.newest c.args.party c.read_whole.new.buf rest c.in-Err-check_numbers.fault c.requires.letters c.requires.size.0 c.read_whole.auto.buf c.in-Err-check_numbers.ensures.fault)

pub returns-in-Err-check_numbers-clause-source : goal.returns-in-Err-check_numbers-clause-source
returns-in-Err-check_numbers-clause-source g c =
    ReadsFrom-as c.in-Ok.ensures.source (λ few. few) (λ is. let no : ⊥ = cc in absurd no) (λ ok. let no : ⊥ = cc in absurd no)
