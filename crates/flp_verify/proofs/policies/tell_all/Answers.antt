use Rattle.std.proofs.Common.{◌<◌, ◌≤◌, length, arith}
use Rattle.flp_verify.proofs.ToldLemmas.{told-none, told-more, told-all}
use Rattle.flp_verify.proofs.policies.tell_all.Goals as goal

pub loop-policy-init : goal.loop-policy-init
loop-policy-init g c = told-none _ _ c.args.policies.now

pub loop-policy-preserved : goal.loop-policy-preserved
loop-policy-preserved g c =
    let below : c.loop-policy.policy-index < length c.loop-policy.policies = omega arith in
    told-more _ _ c.loop-policy.policy-index c.args.policies.now c.loop-policy.policies c.policy-item.result c.tell_one.new.policy below c.loop-policy.invariant (λ m. c.tell_one.ensures m.0 m.1)

pub returns : goal.returns
returns g c more of =
    let all : length c.loop-policy.policies ≤ c.loop-policy.policy-index = omega arith in
    told-all _ _ c.loop-policy.policy-index c.args.policies.now c.loop-policy.policies all c.loop-policy.invariant (more, of)
