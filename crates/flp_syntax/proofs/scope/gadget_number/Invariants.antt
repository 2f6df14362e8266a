use Rattle.std.proofs.Common.{◌≡◌, ◌+◌, drop, map}
use Rattle.std.specs.Option.{option_map}
use Rattle.flp_syntax.specs.Scope.{gadget_number}
use Rattle.flp_syntax.specs.View.{declaration_of}
use Rattle.flp_syntax.proofs.scope.gadget_number.Given as goal

-- the name is that of none of the gadgets so far
abbrev pub invariant-loop-number : goal.invariant-loop-number
invariant-loop-number l =
    gadget_number (map declaration_of l.gadgets) l.name
    ≡ option_map (λ more. l.number + more) (gadget_number (map declaration_of (drop l.number l.gadgets)) l.name)
