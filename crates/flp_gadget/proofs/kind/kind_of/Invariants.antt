use Rattle.std.proofs.Common.{◌≡◌, drop}
use Rattle.flp_gadget.specs.KindText.{tree_of}
use Rattle.flp_gadget.specs.FlatKind.{product_of}
use Rattle.flp_gadget.proofs.TextLemmas.{under}
use Rattle.flp_gadget.proofs.kind.kind_of.Given as goal

abbrev pub invariant-loop-step : goal.invariant-loop-step
invariant-loop-step l = record {
  made : tree_of l.text ≡ under l.counts.items (tree_of (drop l.step-index l.text));
  product : l.groups ≡ product_of l.counts.items;
}
