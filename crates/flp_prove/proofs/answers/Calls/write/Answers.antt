use Rattle.std.proofs.Common.{◌∙◌}
use Rattle.flp_plan.proofs.SizeLemmas.{calls-total}
use Rattle.flp_prove.proofs.answers.Calls.write.Goals as goal

pub write_answers-requires-clause-answers : goal.write_answers-requires-clause-answers
write_answers-requires-clause-answers c =
    c.deref_mut-3.ensures.len ∙ c.requires.made.for_values ∙ calls-total c.args.plan.now.circuit c.is_within_limits.ensures
