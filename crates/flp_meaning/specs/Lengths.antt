-- How many words there are of each part of a report. From the parts of one gadget up to the seven lengths.
use Rattle.std.specs.Prelude.{ℕ, ◌+◌, ◌-◌, ◌*◌, nat_lt, if◌then◌else◌, length}
use Rattle.std.specs.List.{range_with_len, sum_by}
use Rattle.flp_syntax.specs.Tree.{Program}
use Rattle.flp_meaning.specs.Gadgets.{gadgets_of, arity_of, degree_of, size_of, check_count, out_count}

-- the coefficients of the proof polynomial of a gadget
abbrev pub coefficient_count : Program → ℕ → ℕ
coefficient_count body gadget = degree_of body gadget * (size_of body gadget - 1) + 1

-- a proof has the seeds of the wires and these coefficients, a verifier the values of the wires and that of the proof polynomial
abbrev pub proof_part : Program → ℕ → ℕ
proof_part body gadget = arity_of body gadget + coefficient_count body gadget

abbrev pub verifier_part : Program → ℕ → ℕ
verifier_part body gadget = arity_of body gadget + 1

-- where the part of a gadget begins, when each gadget has a part of this size
abbrev pub start_of : (ℕ → ℕ) → ℕ → ℕ
start_of size gadget = sum_by size (range_with_len 0 gadget)

-- the words that combine the checks: none where there is but one check
abbrev pub check_words : Program → ℕ
check_words body = if nat_lt 1 (check_count body) then check_count body else 0

pub record Lengths : Type 0 where
  pub meas : ℕ
  pub joint : ℕ
  pub prove : ℕ
  pub query : ℕ
  pub proof : ℕ
  pub verifier : ℕ
  pub outs : ℕ

abbrev pub lengths_of : Program → Lengths
lengths_of body =
    record {
      meas = body.meas;
      joint = body.joint;
      prove = sum_by (arity_of body) (gadgets_of body);
      query = check_words body + length body.gadgets;
      proof = sum_by (proof_part body) (gadgets_of body);
      verifier = 1 + sum_by (verifier_part body) (gadgets_of body);
      outs = out_count body;
    }
