-- The limits that the circuit of every plan keeps.
use Rattle.std.specs.Prelude.{ℕ, ◌+◌, ◌<◌, ◌≤◌, length}
use Rattle.flp_gadget.specs.KindTree.{IsKind}
use Rattle.flp_syntax.specs.Tree.{Program}
use Rattle.flp_meaning.specs.Circuit.{kind_of}
use Rattle.flp_meaning.specs.Gadgets.{arity_of, degree_of, calls_made, log_of, size_of, call_count, call_gadget, call_number, check_count, out_count}
use Rattle.flp_meaning.specs.Terms.{wire_count, term_count}
use Rattle.flp_plan.specs.Counted.{most}

-- a gadget, by its number
pub record GadgetIsWithin (circuit : Program) (gadget : ℕ) : Type 0 where
  pub kind : IsKind (kind_of circuit gadget)
  pub some_inputs : 1 ≤ arity_of circuit gadget
  pub few_inputs : arity_of circuit gadget ≤ 1024
  pub some_degree : 1 ≤ degree_of circuit gadget
  pub low_degree : degree_of circuit gadget ≤ 8
  pub some_calls : 1 ≤ calls_made circuit gadget
  pub few_calls : calls_made circuit gadget ≤ 4095
  pub small_domain : log_of circuit gadget ≤ 12
  pub room_for_calls : calls_made circuit gadget + 1 ≤ size_of circuit gadget

-- a call, by its number among all calls, from 0
pub record CallIsWithin (circuit : Program) (number : ℕ) : Type 0 where
  pub gadget : call_gadget circuit number < length circuit.gadgets
  pub from_one : 1 ≤ call_number circuit number
  pub among_calls : call_number circuit number ≤ calls_made circuit (call_gadget circuit number)

pub record CircuitIsWithin (circuit : Program) : Type 0 where
  pub some_meas : 1 ≤ circuit.meas
  pub few_meas : circuit.meas ≤ 65536
  pub few_joint : circuit.joint ≤ 65536
  pub some_gadgets : 1 ≤ length circuit.gadgets
  pub few_gadgets : length circuit.gadgets ≤ 8
  pub gadgets : (gadget : ℕ) → gadget < length circuit.gadgets → GadgetIsWithin circuit gadget
  pub few_calls : call_count circuit ≤ 32760
  pub calls : (number : ℕ) → number < call_count circuit → CallIsWithin circuit number
  pub some_checks : 1 ≤ check_count circuit
  pub few_checks : check_count circuit ≤ 65536
  pub some_outs : 1 ≤ out_count circuit
  pub few_outs : out_count circuit ≤ 65536
  pub few_wires : wire_count circuit ≤ most
  pub few_terms : term_count circuit ≤ most
