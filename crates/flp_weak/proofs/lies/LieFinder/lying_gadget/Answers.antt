use Rattle.std.proofs.Common.{ap, ◌∙◌}
use Rattle.flp_plan.specs.declared.sizes.Sizes.{Sizes}
use Rattle.flp_plan.specs.Sizes.{calls_in}
use Rattle.flp_plan.proofs.SizeLemmas.{calls-total}
use Rattle.flp_weak.proofs.lies.LieFinder.lying_gadget.Goals as goal

pub write_answers-requires-clause-answers : goal.write_answers-requires-clause-answers
write_answers-requires-clause-answers c =
    c.deref_mut-answers.ensures.len ∙ c.self.invariant.for_answers ∙ ap (λ (sizes : Sizes). calls_in sizes.gadgets) (c.self.view_is ∙ c.requires.made)
    ∙ calls-total c.args.plan.now.circuit c.is_within_limits.ensures

pub returns-clause-gadget : goal.returns-clause-gadget
returns-clause-gadget c = c.first_lying.ensures.gadget c.args.joint.now c.publics.ensures
