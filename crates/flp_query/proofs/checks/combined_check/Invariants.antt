use Rattle.std.proofs.Common.{ℕ, ◌≡◌, ◌%◌, List, take}
use Rattle.flp_field.specs.Word.{modulus}
use Rattle.flp_meaning.specs.Circuit.{checks_of, with_answers}
use Rattle.flp_meaning.specs.Verifier.{combination}
use Rattle.flp_plan.specs.View.{publics_of}
use Rattle.flp_query.proofs.checks.combined_check.Given as goal

abbrev pub invariant-loop-index : goal.invariant-loop-index
invariant-loop-index l =
    (joint : List ℕ) → l.reading.publics.now ≡ publics_of l.plan joint
    → l.sum ≡ combination (take l.index (checks_of l.plan.circuit (with_answers l.reading.x.now joint l.reading.unit l.reading.answers.now))) l.words % modulus
