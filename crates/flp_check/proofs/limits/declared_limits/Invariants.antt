use Rattle.std.proofs.Common.{◌≡◌, drop, map}
use Rattle.std.specs.List.{flat_map}
use Rattle.flp_syntax.specs.View.{declaration_of}
use Rattle.flp_check.specs.Limits.{first, gadget_faults}
use Rattle.flp_check.proofs.limits.declared_limits.Given as goal

-- the gadgets so far are within their limits
abbrev pub invariant-loop-decl : goal.invariant-loop-decl
invariant-loop-decl l = first (flat_map gadget_faults (map declaration_of l.gadgets)) ≡ first (flat_map gadget_faults (map declaration_of (drop l.decl-index l.gadgets)))
