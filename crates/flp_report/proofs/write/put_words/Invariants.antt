-- The words that are gone from `rest` were written, out of the room that was told, and no write failed.
use Rattle.std.proofs.Common.{◌≡◌, ℕ, List, ◌++◌, length}
use Rattle.std.specs.Io.KnownBytes.{Appends}
use Rattle.flp_io.specs.Faults.{Uses}
use Rattle.flp_io.specs.Writes.{HasRoom, Spends}
use Rattle.flp_report.specs.Layout.{word_bytes}
use Rattle.flp_report.proofs.write.put_words.Given as goal

abbrev pub invariant-loop-rest : goal.invariant-loop-rest
invariant-loop-rest g l =
    (done : List ℕ) × (word_bytes l.initial.rest ≡ done ++ word_bytes l.rest) × Appends (g.K.Sink.taken l.initial.sink) (g.K.Sink.taken l.sink) done
    × (HasRoom (g.K.Sink.spare l.initial.sink) (length (word_bytes l.initial.rest))
    → HasRoom (g.K.Sink.spare l.sink) (length (word_bytes l.rest)) × Spends (g.K.Sink.spare l.initial.sink) (g.K.Sink.spare l.sink) (length done))
    × Uses g.K.Sink.faults g.K.Sink.ready l.initial.sink l.sink ⊥ (Unit {0})

abbrev pub decreases-loop-rest : goal.decreases-loop-rest
decreases-loop-rest g l = length l.rest
