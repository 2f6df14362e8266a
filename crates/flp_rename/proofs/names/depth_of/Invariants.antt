use Rattle.std.proofs.Common.{◌≡◌, ◌+◌, drop}
use Rattle.flp_syntax.specs.View.{names_of}
use Rattle.flp_rename.specs.Renamed.{depth_of}
use Rattle.flp_rename.proofs.names.depth_of.Given as goal

-- the name is that of none of the loops so far
abbrev pub invariant-loop-depth : goal.invariant-loop-depth
invariant-loop-depth l = depth_of (names_of l.names) l.name ≡ l.depth + depth_of (names_of (drop l.depth l.names)) l.name
