use Rattle.std.proofs.Common.{subst}
use Rattle.flp_syntax.specs.View.{program_of}
use Rattle.flp_syntax.specs.Linear.{IsLinear}
use Rattle.flp_check.proofs.VerdictLemmas.{body_linear}
use Rattle.flp_plan.specs.View.{Compiled}
use Rattle.flp_plan.proofs.laws.is_linear.Goals as goal

pub returns : goal.returns
returns c =
    subst (λ (plan : Compiled). IsLinear plan.circuit) c.plan.view_is
    (body_linear (program_of c.plan.inside.checked.body) _ c.plan.inside.checked.passed)
