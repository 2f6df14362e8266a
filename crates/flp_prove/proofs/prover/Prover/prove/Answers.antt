use Rattle.std.proofs.Common.{ℕ, List, length, ap, ◌∙◌}
use Rattle.flp_prove.proofs.CallLemmas.{length-values}
use Rattle.flp_prove.proofs.prover.Prover.prove.Goals as goal

pub write_parts-requires-clause-answers : goal.write_parts-requires-clause-answers
write_parts-requires-clause-answers c =
    ap (λ (l : List ℕ). length l) (c.deref-2.ensures.value ∙ c.write.ensures.values)
    ∙ length-values c.args.plan.now.circuit c.args.x.now c.args.joint.now
