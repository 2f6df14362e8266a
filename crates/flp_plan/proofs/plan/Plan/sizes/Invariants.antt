use Rattle.std.proofs.Common.{◌≡◌, map}
use Rattle.std.specs.List.{range_with_len}
use Rattle.flp_plan.specs.Sizes.{gadget_size}
use Rattle.flp_plan.proofs.plan.Plan.sizes.Given as goal

abbrev pub invariant-loop-gadget : goal.invariant-loop-gadget
invariant-loop-gadget l = l.gadgets.items ≡ map (gadget_size l.self.circuit) (range_with_len 0 l.gadget)
