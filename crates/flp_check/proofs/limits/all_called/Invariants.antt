use Rattle.std.proofs.Common.{◌≡◌, drop}
use Rattle.flp_check.specs.Limits.{uncalled_faults}
use Rattle.flp_check.proofs.limits.all_called.Given as goal

-- the gadgets so far were called
abbrev pub invariant-loop-gadget : goal.invariant-loop-gadget
invariant-loop-gadget l = uncalled_faults 0 l.calls ≡ uncalled_faults l.gadget (drop l.gadget l.calls)
