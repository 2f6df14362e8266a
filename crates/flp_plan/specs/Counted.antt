-- The lengths of a circuit as the program holds them, and what compiling refuses.
use Rattle.std.specs.Prelude.{ℕ, ◌≡◌, ◌≤◌, nat_lt, if◌then◌else◌, Option, None, Some}
use Rattle.flp_syntax.specs.Tree.{Program}
use Rattle.flp_meaning.specs.Lengths as words
use Rattle.flp_meaning.specs.Terms.{wire_count, term_count}
use Rattle.flp_plan.specs.declared.lengths.Lengths.{Lengths}
use Rattle.flp_plan.specs.declared.fault.PlanFault.{PlanFault}
use Rattle.flp_plan.specs.declared.fault.PlanFault.TheVariants.{Memory, Limit}
use Rattle.flp_plan.specs.declared.fault.PlanCounted.TheVariants.{Wires, Terms}

abbrev pub counted_lengths : Program → Lengths
counted_lengths circuit =
    record {
      meas = (words.lengths_of circuit).meas;
      joint = (words.lengths_of circuit).joint;
      prove = (words.lengths_of circuit).prove;
      query = (words.lengths_of circuit).query;
      proof = (words.lengths_of circuit).proof;
      verifier = (words.lengths_of circuit).verifier;
      outs = (words.lengths_of circuit).outs;
    }

-- a circuit has at most this many points of wires, and as many terms
abbrev pub most : ℕ
most = 1048576

-- neither count is past its limit
pub record IsSmallCircuit (circuit : Program) : Type 0 where
  pub wires : wire_count circuit ≤ most
  pub terms : term_count circuit ≤ most

-- the first count that is past its limit: the wires, and then the terms
abbrev pub limit_fault : Program → Option PlanFault
limit_fault circuit =
    if nat_lt most (wire_count circuit) then Some (Limit Wires (wire_count circuit))
    else (if nat_lt most (term_count circuit) then Some (Limit Terms (term_count circuit)) else None)

-- want of memory is free where the wires are not past their limit, which is found with none
abbrev pub IsFaultOf : Program → PlanFault → Type 0
IsFaultOf circuit Memory = wire_count circuit ≤ most
IsFaultOf circuit (Limit which value) = limit_fault circuit ≡ Some (Limit which value)
