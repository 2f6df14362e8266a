use Rattle.std.proofs.Common.{◌≡◌, ◌+◌, ◌<◌, ℕ, length, take, get_or}
use Rattle.flp_meaning.specs.Gadgets.{times}
use Rattle.flp_plan.specs.Numbers.{gadgets_in}
use Rattle.flp_plan.proofs.numbers.call_numbers.Given as goal

-- how often each gadget was called so far, and what the calls so far were numbered
abbrev pub invariant-loop-call : goal.invariant-loop-call
invariant-loop-call l = record {
  gadgets : length l.counts.items ≡ l.gadgets;
  counts : (g : ℕ) → g < l.gadgets → get_or l.counts.items g 0 ≡ times g (take l.call-index (gadgets_in l.calls));
  numbered : length l.numbers.items ≡ l.call-index;
  numbers :
      (k : ℕ) → k < l.call-index
      → get_or l.numbers.items k 0 ≡ times (get_or (gadgets_in l.calls) k 0) (take (k + 1) (gadgets_in l.calls));
}
