use Rattle.std.proofs.Common.{ℕ, ◌*◌, ◌<◌, ◌≤◌}
use Rattle.flp_meaning.specs.Gadgets.{arity_of}
use Rattle.flp_prove.specs.Room.{points_of}
use Rattle.flp_prove.proofs.sizes.most_wire_words.Given as goal

abbrev pub invariant-loop-gadget : goal.invariant-loop-gadget
invariant-loop-gadget l =
    (gadget : ℕ) → gadget < l.gadget → arity_of l.plan.circuit gadget * points_of l.plan.circuit gadget ≤ l.most
