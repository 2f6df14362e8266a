use Rattle.std.proofs.Common.{ℕ, ◌≡◌, ◌-◌, List, length}
use Rattle.flp_meaning.specs.Gadgets.{first_where}
use Rattle.flp_plan.specs.View.{publics_of}
use Rattle.flp_weak.specs.WeakWord as weak
use Rattle.flp_weak.proofs.lies.first_lying.Given as goal

abbrev pub invariant-loop-gadget : goal.invariant-loop-gadget
invariant-loop-gadget l = record {
  again : l.room ≡ l.fn.room;
  goes_on : (joint : List ℕ) → l.reading.publics.now ≡ publics_of l.plan joint
      → weak.lying_gadget l.plan.circuit l.reading.x.now joint l.proof
      ≡ first_where (weak.gadget_lies l.plan.circuit l.reading.x.now joint l.proof) l.gadget (length l.plan.circuit.gadgets - l.gadget);
}
