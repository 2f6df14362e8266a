use Rattle.std.proofs.Common.{ℕ, ◌≡◌, ◌≢◌, ◌<◌, get_or}
use Rattle.flp_meaning.specs.Gadgets.{call_gadget, call_number}
use Rattle.flp_query.proofs.answers.write_answers_of.Given as goal

abbrev pub invariant-loop-call : goal.invariant-loop-call
invariant-loop-call l = record {
  own : (k : ℕ) → k < l.call → call_gadget l.plan.circuit k ≡ l.gadget → get_or l.answers k 0 ≡ get_or l.values (call_number l.plan.circuit k) 0;
  others : (k : ℕ) → call_gadget l.plan.circuit k ≢ l.gadget → get_or l.answers k 0 ≡ get_or l.fn.answers k 0;
}
