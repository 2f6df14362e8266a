use Rattle.std.proofs.Common.{◌≡◌, ◌+◌, ◌*◌, ◌≤◌, take}
use Rattle.std.specs.List.{range_with_len, flat_map}
use Rattle.flp_meaning.specs.Gadgets.{arity_of}
use Rattle.flp_meaning.specs.Lengths.{start_of, verifier_part}
use Rattle.flp_hide.specs.Wires.{wires_of_verifier}
use Rattle.flp_hide.proofs.reader.copy_wires.Given as goal

abbrev pub invariant-loop-gadget : goal.invariant-loop-gadget
invariant-loop-gadget l = record {
  first : l.first ≡ start_of (arity_of l.plan.circuit) l.gadget;
  few : l.first ≤ 1024 * l.gadget;
  start : l.start ≡ 1 + start_of (verifier_part l.plan.circuit) l.gadget;
  low : l.start ≤ 1 + 1025 * l.gadget;
  parts : take l.first l.out ≡ flat_map (wires_of_verifier l.plan.circuit l.verifier) (range_with_len 0 l.gadget);
}
