use Rattle.std.proofs.Common.{◌≡◌, drop}
use Rattle.flp_circuits.specs.Encoding.{range_fault}
use Rattle.flp_circuits.proofs.encoding.in_range.Given as goal

-- no number so far is out of range
abbrev pub invariant-loop-place : goal.invariant-loop-place
invariant-loop-place l = range_fault l.range l.place (drop l.place l.input) ≡ range_fault l.range 0 l.input
