use Rattle.std.proofs.Common.{◌∙◌, ◌++◌, ◌∷◌, [], map, ap, sym, arith}
use Rattle.std.specs.List.{range_with_len}
use Rattle.std.proofs.lemmas.List.FromFn.{map-range_with_len_more}
use Rattle.std.proofs.lemmas.Slice.{pushed}
use Rattle.flp_plan.specs.Sizes.{gadget_size}
use Rattle.flp_plan.specs.declared.sizes.GadgetSize.{GadgetSize}
use Rattle.flp_plan.proofs.plan.Plan.sizes.Goals as goal

pub loop-gadget-preserved : goal.loop-gadget-preserved
loop-gadget-preserved c =
    pushed (c.gadget_size.result ∷ []) c.loop-gadget.invariant c.in_ok-push.was c.push.ensures.items
    ∙ ap (λ (size : GadgetSize). map (gadget_size c.args.self.now.circuit) (range_with_len 0 c.loop-gadget.gadget) ++ size ∷ []) c.gadget_size.ensures
    ∙ sym (map-range_with_len_more (gadget_size c.args.self.now.circuit) 0 c.loop-gadget.gadget c.loop-gadget.gadget (omega arith))
