use Rattle.std.proofs.Common.{◌≡◌, ℕ, length, Some}
use Rattle.std.specs.List.{slice_get}
use Rattle.flp_syntax.specs.View.{program_of}
use Rattle.flp_plan.specs.declared.gadgets.GadgetUse.{GadgetUse}
use Rattle.flp_plan.specs.Uses.{IsUse}
use Rattle.flp_plan.proofs.gadgets.gadget_uses.Given as goal

-- the gadgets so far
abbrev pub invariant-loop-gadget : goal.invariant-loop-gadget
invariant-loop-gadget l = record {
  count : length l.uses.items ≡ l.gadget;
  each : (g : ℕ) (held : GadgetUse) → slice_get l.uses.items g ≡ Some held → IsUse (program_of l.checked.body) g held;
}
