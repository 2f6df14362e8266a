use Rattle.std.proofs.Common.{ℕ, ◌≡◌, List, take}
use Rattle.flp_meaning.specs.Circuit.{calls_of, with_answers}
use Rattle.flp_plan.specs.View.{publics_of}
use Rattle.flp_plan.specs.Rows.{HasRows}
use Rattle.flp_plan.proofs.plan.Plan.rows.Given as goal

abbrev pub invariant-loop-call : goal.invariant-loop-call
invariant-loop-call l =
    (joint : List ℕ) → l.reading.publics.now ≡ publics_of l.self joint
    → HasRows l.self.circuit (take l.call (calls_of l.self.circuit (with_answers l.reading.x.now joint l.reading.unit l.reading.answers.now))) l.seeds l.gadget l.rows
