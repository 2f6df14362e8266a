use Rattle.std.proofs.Common.{ℕ, List, length, ap, ◌∙◌}
use Rattle.flp_prove.proofs.CallLemmas.{length-values}
use Rattle.flp_prove.proofs.checks.Checker.failing_check.Goals as goal

pub first_failing-requires-clause-answers : goal.first_failing-requires-clause-answers
first_failing-requires-clause-answers c =
    ap (λ (l : List ℕ). length l) (c.deref-2.ensures.value ∙ c.write.ensures.values)
    ∙ length-values c.args.plan.now.circuit c.args.x.now c.args.joint.now
