-- What is gone from `rest` was taken, out of the room that was told, the count of faults has not fallen, and the sink may be written to.
use Rattle.std.proofs.Common.{◌≡◌, ℕ, ◌≤◌, List, ◌++◌, length}
use Rattle.std.specs.Io.KnownBytes.{Appends}
use Rattle.flp_io.specs.Writes.{HasRoom, Spends}
use Rattle.flp_io.proofs.sink.put.Given as goal

abbrev pub invariant-loop-rest : goal.invariant-loop-rest
invariant-loop-rest g l =
    (done : List ℕ) × (l.initial.rest ≡ done ++ l.rest) × Appends (g.K.Sink.taken l.initial.sink) (g.K.Sink.taken l.sink) done
    × (HasRoom (g.K.Sink.spare l.initial.sink) (length l.initial.rest)
    → HasRoom (g.K.Sink.spare l.sink) (length l.rest) × Spends (g.K.Sink.spare l.initial.sink) (g.K.Sink.spare l.sink) (length done))
    × (g.K.Sink.faults l.initial.sink ≤ g.K.Sink.faults l.sink) × g.K.Sink.ready l.sink

abbrev pub decreases-loop-rest : goal.decreases-loop-rest
decreases-loop-rest g l = length l.rest
