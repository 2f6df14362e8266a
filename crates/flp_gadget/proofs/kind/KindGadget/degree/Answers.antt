use Rattle.std.proofs.Common.{◌∙◌}
use Rattle.flp_gadget.specs.FlatKind.{leaf_tree}
use Rattle.flp_gadget.proofs.FlatLemmas.{flat-degree}
use Rattle.flp_gadget.proofs.kind.KindGadget.degree.Goals as goal

pub returns-clause-number : goal.returns-clause-number
returns-clause-number c =
    c.degree.ensures.number
    ∙ flat-degree c.self.inside.counts.items (leaf_tree c.self.inside.leaf) c.args.self.now c.self.view_is
