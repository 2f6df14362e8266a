use Rattle.std.proofs.Common.{ℕ, ◌≡◌, List, take}
use Rattle.std.specs.List.{range_with_len, flat_map}
use Rattle.flp_meaning.specs.Lengths.{start_of, verifier_part}
use Rattle.flp_meaning.specs.Verifier.{verifier_of}
use Rattle.flp_plan.specs.View.{publics_of}
use Rattle.flp_query.specs.Challenge.{all_weights}
use Rattle.flp_query.proofs.verifier.write_parts.Given as goal

abbrev pub invariant-loop-gadget : goal.invariant-loop-gadget
invariant-loop-gadget l = record {
  start : l.start ≡ start_of (verifier_part l.plan.circuit) l.gadget;
  parts : (joint : List ℕ) → l.reading.publics.now ≡ publics_of l.plan joint → l.question.weights.now ≡ all_weights l.plan.circuit l.question.words.now
      → take l.start l.parts
      ≡ flat_map (verifier_of l.plan.circuit l.reading.x.now joint l.proof l.question.words.now l.reading.unit) (range_with_len 0 l.gadget);
}
