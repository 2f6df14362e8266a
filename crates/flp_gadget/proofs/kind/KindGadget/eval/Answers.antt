use Rattle.std.proofs.Common.{◌∙◌, sym}
use Rattle.flp_gadget.specs.FlatKind.{leaf_tree}
use Rattle.flp_gadget.proofs.FlatLemmas.{flat-arity, flat-value}
use Rattle.flp_gadget.proofs.kind.KindGadget.eval.Goals as goal

pub sum_over-requires : goal.sum_over-requires
sum_over-requires c =
    c.requires
    ∙ sym
    (flat-arity c.self.inside.counts.items c.self.inside.groups (leaf_tree c.self.inside.leaf) c.args.self.now
    c.self.invariant c.self.view_is)

pub returns : goal.returns
returns c =
    c.sum_over.ensures
    ∙ flat-value c.self.inside.counts.items c.self.inside.groups (leaf_tree c.self.inside.leaf) c.args.self.now
    c.args.inputs.now c.self.invariant c.self.view_is c.requires
