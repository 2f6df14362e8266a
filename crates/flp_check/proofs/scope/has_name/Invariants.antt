use Rattle.std.proofs.Common.{◌≡◌, drop}
use Rattle.flp_syntax.specs.Scope.{has_name}
use Rattle.flp_syntax.specs.View.{names_of}
use Rattle.flp_check.proofs.scope.has_name.Given as goal

-- the name is none of those so far
abbrev pub invariant-loop-other : goal.invariant-loop-other
invariant-loop-other l = has_name (names_of l.names) l.name ≡ has_name (names_of (drop l.other-index l.names)) l.name
