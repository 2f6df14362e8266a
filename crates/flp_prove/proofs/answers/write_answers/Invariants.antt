use Rattle.std.proofs.Common.{ℕ, ◌≡◌, ◌<◌, List, get_or}
use Rattle.flp_meaning.specs.MeaningLaws.{call_values}
use Rattle.flp_plan.specs.View.{publics_of}
use Rattle.flp_prove.proofs.answers.write_answers.Given as goal

abbrev pub invariant-loop-call : goal.invariant-loop-call
invariant-loop-call l =
    (joint : List ℕ) → l.publics ≡ publics_of l.plan joint
    → (number : ℕ) → number < l.call → get_or l.answers number 0 ≡ get_or (call_values l.plan.circuit l.x joint) number 0
