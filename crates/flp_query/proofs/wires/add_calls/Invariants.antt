use Rattle.std.proofs.Common.{ℕ, ◌≡◌, ◌+◌, List, [], take}
use Rattle.flp_meaning.specs.Circuit.{calls_of, with_answers}
use Rattle.flp_plan.specs.View.{publics_of}
use Rattle.flp_query.specs.Wires.{AreSums, AreOfAtMost}
use Rattle.flp_query.proofs.wires.add_calls.Given as goal

abbrev pub invariant-loop-call : goal.invariant-loop-call
invariant-loop-call l = record {
  sums : (joint seeds : List ℕ) → l.reading.publics.now ≡ publics_of l.plan joint → AreSums [] seeds l.weights l.gadget l.fn.sums
      → AreSums (take l.call (calls_of l.plan.circuit (with_answers l.reading.x.now joint l.reading.unit l.reading.answers.now))) seeds l.weights l.gadget l.sums;
  room : AreOfAtMost (l.call + 1) l.sums;
}
