-- What `fill` has read so far fills the front of the buffer, and the source may be read.
use Rattle.std.proofs.Common.{◌-◌, ◌≤◌, length, take}
use Rattle.std.specs.Io.KnownBytes.{Consumes}
use Rattle.flp_io.proofs.source.fill.Given as goal

abbrev pub invariant-loop-filled : goal.invariant-loop-filled
invariant-loop-filled g l =
    (l.filled ≤ length l.buf) × Consumes (g.S.Source.left l.initial.source) (g.S.Source.left l.source) (take l.filled l.buf)
    × (g.S.Source.faults l.initial.source ≤ g.S.Source.faults l.source) × g.S.Source.ready l.source

abbrev pub decreases-loop-filled : goal.decreases-loop-filled
decreases-loop-filled g l = length l.buf - l.filled
