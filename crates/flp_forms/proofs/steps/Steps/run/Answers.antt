use Rattle.std.proofs.Common.{List, length, get_or, ap, subst, ◌<◌, ◌≡◌, ◌∙◌, arith, length-set}
use Rattle.flp_forms.specs.declared.step.Step.{Step}
use Rattle.flp_forms.proofs.PublicLemmas.{run_turn}
use Rattle.flp_forms.proofs.steps.Steps.run.Goals as goal

pub loop-i-preserved : goal.loop-i-preserved
loop-i-preserved c =
    let size : length c.deref-step-items.result.now ≡ length c.args.self.now.steps =
    ap (λ (steps : List Step). length steps) c.loop-i.invariant.same in
    let within : c.loop-i.i < length c.args.self.now.steps = omega arith in
    record {
      same = c.loop-i.invariant.same;
      size = length-set c.loop-i.out c.loop-i.i c.value_of.result ∙ c.loop-i.invariant.size;
      done =
          run_turn c.args.self.now.steps c.args.joint.now c.loop-i.out c.loop-i.i c.value_of.result c.step-item.result
          within (omega arith)
          (subst (λ (steps : List Step). c.step-item.result ≡ get_or steps c.loop-i.i c.step-item.result)
          c.loop-i.invariant.same c.step-item.is)
          c.loop-i.invariant.done c.value_of.ensures.value;
      last = c.value_of.ensures.last;
    }
