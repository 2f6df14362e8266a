use Rattle.std.proofs.Common.{◌<◌, ◌≤◌, ◌∙◌, length, sym, arith}
use Rattle.flp_verify.proofs.ToldLemmas.{passed-none, passed-more, refused-at, refused-none}
use Rattle.flp_verify.proofs.policies.first_refusal.Goals as goal

pub loop-index-init : goal.loop-index-init
loop-index-init g c = passed-none _ c.args.policies.now

pub loop-index-preserved : goal.loop-index-preserved
loop-index-preserved g c =
    let below : c.loop-index.index < length c.args.policies.now = omega arith in
    passed-more _ c.loop-index.index c.args.policies.now c.index-policies-index.result below c.index-policies-index.is c.loop-index.invariant (sym c.allows.ensures ∙ c.if-not-allows.false)

pub returns-then-not-allows : goal.returns-then-not-allows
returns-then-not-allows g c =
    let below : c.loop-index.index < length c.args.policies.now = omega arith in
    refused-at _ _ c.loop-index.index c.args.policies.now c.index-policies-index.result (sym c.release.ensures ∙ c.if-not-release.false) below c.index-policies-index.is c.loop-index.invariant (sym c.allows.ensures ∙ c.if-not-allows.true)

pub returns : goal.returns
returns g c =
    let all : length c.args.policies.now ≤ c.loop-index.index = omega arith in
    refused-none _ _ c.loop-index.index c.args.policies.now (sym c.release.ensures ∙ c.if-not-release.false) all c.loop-index.invariant
