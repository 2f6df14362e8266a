use Rattle.std.proofs.Common.{subst}
use Rattle.flp_meaning.specs.ProofLaws.{IsBounded}
use Rattle.flp_plan.specs.View.{Compiled}
use Rattle.flp_plan.proofs.LimitLemmas.{bounded-within}
use Rattle.flp_plan.proofs.laws.is_bounded.Goals as goal

pub returns : goal.returns
returns c = subst (λ (plan : Compiled). IsBounded plan.circuit) c.plan.view_is (bounded-within _ c.plan.invariant.limits)
