use Rattle.std.proofs.Common.{ℕ, ◌≡◌, ◌*◌, ◌<◌, ◌≤◌}
use Rattle.flp_meaning.specs.Gadgets.{arity_of, size_of}
use Rattle.flp_plan.proofs.plan.Plan.row_words.Given as goal

-- the most so far is enough for each gadget so far, and is that of one of them
abbrev pub invariant-loop-gadget : goal.invariant-loop-gadget
invariant-loop-gadget l = record {
  enough : (gadget : ℕ) → gadget < l.gadget → size_of l.self.circuit gadget * arity_of l.self.circuit gadget ≤ l.most;
  none : l.gadget ≡ 0 → l.most ≡ 0;
  own : 0 < l.gadget → (gadget : ℕ) × (gadget < l.gadget) × (l.most ≡ size_of l.self.circuit gadget * arity_of l.self.circuit gadget);
}
