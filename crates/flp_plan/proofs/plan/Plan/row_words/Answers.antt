use Rattle.std.proofs.Common.{ℕ, ◌*◌, ◌∙◌, ap₂, max, arith}
use Rattle.flp_meaning.specs.Gadgets.{arity_of, size_of}
use Rattle.flp_plan.proofs.SizeLemmas.{most_own, most_enough}
use Rattle.flp_plan.proofs.plan.Plan.row_words.Goals as goal

pub loop-gadget-preserved : goal.loop-gadget-preserved
loop-gadget-preserved c =
    let words = λ (gadget : ℕ). size_of c.args.self.now.circuit gadget * arity_of c.args.self.now.circuit gadget in
    let new = c.larger-most.ensures ∙ ap₂ (λ (size inputs : ℕ). max c.loop-gadget.most (size * inputs)) c.domain_size.ensures.points c.arity.ensures.inputs in
    record {
      enough = most_enough words c.loop-gadget.gadget c.loop-gadget.most c.larger-most.result c.loop-gadget.invariant.enough new;
      none = λ none. absurd (omega arith);
      own = λ some. most_own words c.loop-gadget.gadget c.loop-gadget.most c.larger-most.result c.loop-gadget.invariant.none c.loop-gadget.invariant.own new;
    }
