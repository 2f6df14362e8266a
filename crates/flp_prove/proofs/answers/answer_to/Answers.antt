use Rattle.std.proofs.Common.{ℕ, ◌∙◌, ap}
use Rattle.flp_gadget.specs.KindTree.{KindTree, value_of}
use Rattle.flp_meaning.specs.Circuit.{kind_of}
use Rattle.flp_prove.proofs.CallLemmas.{value-of_call}
use Rattle.flp_prove.proofs.answers.answer_to.Goals as goal

pub returns : goal.returns
returns c joint same before =
    c.eval.ensures
    ∙ ap (λ (kind : KindTree). value_of kind c.inputs.new.out)
    (c.kind-kind.ensures ∙ ap (λ (g : ℕ). kind_of c.args.plan.now.circuit g) c.call_gadget.ensures)
    ∙ value-of_call c.args.plan.now.circuit c.args.x.now joint c.args.answers.now c.args.call c.inputs.new.out c.answered_is_direct.ensures.filled
    c.requires.call before (c.inputs.ensures.inputs joint same)
