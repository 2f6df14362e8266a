use Rattle.std.proofs.Common.{◌≡◌, ◌<◌, ◌^◌, ℕ}
use Rattle.flp_plan.proofs.gadgets.log_at_least.Given as goal

-- no smaller power serves
abbrev pub invariant-loop-log : goal.invariant-loop-log
invariant-loop-log l = record {
  size : l.size ≡ 2 ^ l.log;
  below : (k : ℕ) → k < l.log → 2 ^ k < l.count;
}
