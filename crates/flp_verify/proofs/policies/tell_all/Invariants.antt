use Rattle.std.proofs.Common.{ℕ}
use Rattle.flp_policy.specs.Counts.{VerdictCounts, one_more_in}
use Rattle.flp_verify.proofs.ToldLemmas.{ToldTo}
use Rattle.flp_verify.proofs.policies.tell_all.Given as goal

abbrev pub invariant-loop-policy : goal.invariant-loop-policy
invariant-loop-policy g l =
    ToldTo {M = VerdictCounts × ℕ} (λ m p. (goal.Policy-dyn g (p.vtable, p.value)).would p.value m.0 m.1) (λ m. (one_more_in l.bucket l.verdict m.1 m.0, m.1)) l.policy-index l.initial.policies l.policies
