-- A circuit within the limits is bounded.
use Rattle.flp_syntax.specs.Tree.{Program}
use Rattle.flp_meaning.specs.ProofLaws.{IsBounded}
use Rattle.flp_plan.specs.Limits.{CircuitIsWithin}

pub bounded-within : (circuit : Program) → CircuitIsWithin circuit → IsBounded circuit
bounded-within circuit limits = record {
  some_gadget = limits.some_gadgets;
  kinds = λ gadget inside. (limits.gadgets gadget inside).kind;
  few_calls = λ gadget inside. (limits.gadgets gadget inside).few_calls;
}
