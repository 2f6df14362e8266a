use Rattle.std.proofs.Common.{◌≡◌, ◌*◌, ◌≤◌, take}
use Rattle.std.specs.List.{range_with_len, flat_map}
use Rattle.flp_meaning.specs.Gadgets.{arity_of}
use Rattle.flp_meaning.specs.Lengths.{start_of}
use Rattle.flp_meaning.specs.Proof.{seeds_for}
use Rattle.flp_hide.specs.Wires.{seeds_between}
use Rattle.flp_hide.proofs.seeds.write_seeds.Given as goal

abbrev pub invariant-loop-gadget : goal.invariant-loop-gadget
invariant-loop-gadget l = record {
  start : l.start ≡ start_of (arity_of l.plan.circuit) l.gadget;
  few : l.start ≤ 1024 * l.gadget;
  parts : take l.start l.out
      ≡ flat_map
      (λ gadget. seeds_between l.plan.circuit l.words (seeds_for l.plan.circuit l.low gadget) (seeds_for l.plan.circuit l.high gadget) gadget)
      (range_with_len 0 l.gadget);
}
