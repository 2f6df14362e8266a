use Rattle.std.proofs.Common.{◌*◌, ◌∙◌, ap}
use Rattle.flp_gadget.specs.FlatKind.{leaf_tree}
use Rattle.flp_gadget.proofs.FlatLemmas.{flat-arity}
use Rattle.flp_gadget.proofs.kind.KindGadget.arity.Goals as goal

pub returns-clause-number : goal.returns-clause-number
returns-clause-number c =
    ap (λ n. c.self.inside.groups * n) c.arity.ensures.number
    ∙ flat-arity c.self.inside.counts.items c.self.inside.groups (leaf_tree c.self.inside.leaf) c.args.self.now
    c.self.invariant c.self.view_is
