use Rattle.std.proofs.Common.{take, Ok}
use Rattle.flp_io.specs.declared.failed.Failed.{Failed}
use Rattle.flp_verdict.specs.Text.{spaced}
use Rattle.flp_known.specs.Puts.{Puts}
use Rattle.flp_verdict.proofs.puts.put_spaced.Given as goal

abbrev pub invariant-loop-number : goal.invariant-loop-number
invariant-loop-number g l = Puts {T = Unit {0}} {E = Failed} g.K.Sink.taken g.K.Sink.faults g.K.Sink.ready l.initial.sink l.sink l.initial.block l.block (spaced (take l.number-index l.numbers)) (Ok tt)
