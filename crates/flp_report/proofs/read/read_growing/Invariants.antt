use Rattle.std.proofs.Common.{◌-◌, ◌≡◌, ◌≤◌, length}
use Rattle.std.specs.Io.KnownBytes.{Consumes}
use Rattle.flp_io.specs.Reads.{ReadsFrom}
use Rattle.flp_report.proofs.read.read_growing.Given as goal

abbrev pub invariant-loop-done : goal.invariant-loop-done
invariant-loop-done g l = record {
  source : ReadsFrom g.S.Source.left g.S.Source.faults g.S.Source.ready l.initial.source l.source (λ old new. Consumes old new l.bytes.items) ⊥ (Unit {0});
  size : length l.bytes.items ≡ l.done;
  within : l.done ≤ l.wanted;
}

abbrev pub decreases-loop-done : goal.decreases-loop-done
decreases-loop-done g l = l.wanted - l.done
