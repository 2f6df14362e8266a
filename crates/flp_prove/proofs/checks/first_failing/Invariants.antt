use Rattle.std.proofs.Common.{◌≡◌, ℕ, List}
use Rattle.flp_meaning.specs.Circuit.{checks_of, direct, failing_check}
use Rattle.flp_meaning.specs.MeaningLaws.{call_values}
use Rattle.flp_plan.specs.View.{publics_of}
use Rattle.flp_prove.proofs.CheckLemmas.{failing_from}
use Rattle.flp_prove.proofs.checks.first_failing.Given as goal

abbrev pub invariant-loop-index : goal.invariant-loop-index
invariant-loop-index l =
    (joint : List ℕ) → l.publics ≡ publics_of l.plan joint → l.answers ≡ call_values l.plan.circuit l.x joint
    → failing_check l.plan.circuit l.x joint ≡ failing_from l.index (checks_of l.plan.circuit (direct l.plan.circuit l.x joint))
