use Rattle.std.proofs.Common.{ℕ, ◌≡◌, ◌<◌, length, get_or}
use Rattle.flp_meaning.specs.Gadgets.{call_gadget}
use Rattle.flp_meaning.specs.Proof.{answer_in}
use Rattle.flp_query.proofs.answers.write_answers.Given as goal

abbrev pub invariant-loop-gadget : goal.invariant-loop-gadget
invariant-loop-gadget l =
    (call : ℕ) → call < length l.answers → call_gadget l.plan.circuit call < l.gadget → get_or l.answers call 0 ≡ answer_in l.plan.circuit l.proof call
