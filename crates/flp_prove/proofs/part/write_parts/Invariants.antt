use Rattle.std.proofs.Common.{ℕ, ◌≡◌, ◌*◌, ◌≤◌, List, take}
use Rattle.std.specs.List.{range_with_len, flat_map}
use Rattle.flp_meaning.specs.Gadgets.{arity_of}
use Rattle.flp_meaning.specs.Lengths.{start_of, proof_part}
use Rattle.flp_meaning.specs.MeaningLaws.{call_values}
use Rattle.flp_meaning.specs.Proof.{honest_part}
use Rattle.flp_plan.specs.View.{publics_of}
use Rattle.flp_prove.proofs.part.write_parts.Given as goal

abbrev pub invariant-loop-gadget : goal.invariant-loop-gadget
invariant-loop-gadget l = record {
  first : l.first ≡ start_of (arity_of l.plan.circuit) l.gadget;
  few : l.first ≤ 1024 * l.gadget;
  start : l.start ≡ start_of (proof_part l.plan.circuit) l.gadget;
  low : l.start ≤ 33785 * l.gadget;
  again : l.room ≡ l.fn.room;
  parts : (joint : List ℕ) → l.reading.publics.now ≡ publics_of l.plan joint
      → l.reading.answers.now ≡ call_values l.plan.circuit l.reading.x.now joint
      → take l.start l.proof ≡ flat_map (honest_part l.plan.circuit l.reading.x.now joint l.seeds) (range_with_len 0 l.gadget);
}
