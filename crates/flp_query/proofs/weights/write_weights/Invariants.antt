use Rattle.std.proofs.Common.{◌≡◌, ◌-◌, take, length, eqb}
use Rattle.std.specs.List.{range_with_len, flat_map}
use Rattle.flp_field.specs.Word.{word_power}
use Rattle.flp_meaning.specs.Gadgets.{first_where, size_of}
use Rattle.flp_meaning.specs.Lengths.{start_of}
use Rattle.flp_meaning.specs.Verifier.{point_of, gadget_in_domain}
use Rattle.flp_query.specs.Challenge.{weights_of}
use Rattle.flp_query.proofs.weights.write_weights.Given as goal

abbrev pub invariant-loop-gadget : goal.invariant-loop-gadget
invariant-loop-gadget l = record {
  start : l.start ≡ start_of (size_of l.plan.circuit) l.gadget;
  found : gadget_in_domain l.plan.circuit l.words
      ≡ first_where (λ gadget. eqb (word_power (point_of l.plan.circuit l.words gadget) (size_of l.plan.circuit gadget)) 1) l.gadget (length l.plan.circuit.gadgets - l.gadget);
  weights : take l.start l.out ≡ flat_map (weights_of l.plan.circuit l.words) (range_with_len 0 l.gadget);
}
