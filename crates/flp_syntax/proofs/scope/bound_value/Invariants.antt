use Rattle.std.proofs.Common.{◌≡◌, drop}
use Rattle.flp_syntax.specs.Scope.{bound_value}
use Rattle.flp_syntax.specs.View.{scope_of}
use Rattle.flp_syntax.proofs.scope.bound_value.Given as goal

-- the name is none of those so far
abbrev pub invariant-loop-bound : goal.invariant-loop-bound
invariant-loop-bound l = bound_value (scope_of l.scope) l.name ≡ bound_value (scope_of (drop l.bound-index l.scope)) l.name
