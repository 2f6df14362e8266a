use Rattle.std.proofs.Common.{◌∙◌, ◌++◌, List, ℕ, ap₂}
use Rattle.flp_gadget.specs.KindTree.{formula_of}
use Rattle.flp_meaning.specs.Meaning.{Call}
use Rattle.flp_meaning.specs.Circuit.{kind_of}
use Rattle.flp_meaning.specs.Wires.{wires_of}
use Rattle.flp_prove.proofs.CallLemmas.{calls-own}
use Rattle.flp_prove.proofs.part.write_part.Goals as goal

pub returns-clause-part : goal.returns-clause-part
returns-clause-part c joint all publics answers own =
    let body = c.args.plan.now.circuit in
    let g : ℕ = c.args.gadget in
    ap₂ (λ (front back : List ℕ). front ++ back) (c.copy_from_slice.ensures.after ∙ own)
    (c.formula_at_wires.ensures.formula joint publics
    ∙ ap₂ (λ (calls : List Call) (seeds : List ℕ). formula_of (kind_of body g) (wires_of body calls seeds g))
    (calls-own body c.args.reading.now.x.now joint c.args.reading.now.answers.now c.args.reading.now.unit c.answered_is_direct.ensures.own c.requires.unit answers)
    own)
