use Rattle.std.proofs.Common.{◌^◌, ◌<◌, ◌≤◌}
use Rattle.flp_ntt.proofs.Mirrors.{Carried}
use Rattle.flp_ntt.proofs.mirror.next_mirror.Given as goal

-- the highest digits were all 1: what is left is the mirror of the digits that the carry has not met
abbrev pub invariant-loop-level : goal.invariant-loop-level
invariant-loop-level l = record {
  inside : l.level ≤ l.log;
  below : l.rest < 2 ^ l.level;
  carried : Carried l.log l.mirror l.level l.rest;
}

abbrev pub decreases-loop-level : goal.decreases-loop-level
decreases-loop-level l = l.level
