use Rattle.std.proofs.Common.{◌≡◌, take}
use Rattle.flp_report.specs.Words.{words}
use Rattle.flp_report.proofs.record.load_numbers.Given as goal

abbrev pub invariant-loop-index : goal.invariant-loop-index
invariant-loop-index l = take l.index l.out ≡ words l.index l.bytes
