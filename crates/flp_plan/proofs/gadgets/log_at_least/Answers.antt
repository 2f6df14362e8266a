use Rattle.std.proofs.Common.{◌<◌, ◌≤◌, ℕ, arith, subst}
use Rattle.flp_plan.proofs.UseLemmas.{log_is}
use Rattle.flp_plan.proofs.gadgets.log_at_least.Goals as goal

pub returns-then-count-size : goal.returns-then-count-size
returns-then-count-size c =
    log_is c.args.count c.loop-log.log (subst (λ (n : ℕ). c.args.count ≤ n) c.loop-log.invariant.size c.if-count-size.true) c.loop-log.invariant.below

pub returns : goal.returns
returns c =
    log_is c.args.count 12 (omega arith) (λ (k : ℕ) (less : k < 12). c.loop-log.invariant.below k (omega arith))
