use Rattle.flp_policy.specs.Counts.{no_more}
use Rattle.flp_verify.proofs.ToldLemmas.{PassedTo}
use Rattle.flp_verify.proofs.policies.first_refusal.Given as goal

abbrev pub invariant-loop-index : goal.invariant-loop-index
invariant-loop-index g l = PassedTo (λ p. (goal.Policy-dyn g (p.vtable, p.value)).would p.value no_more l.bucket) l.index l.policies
