use Rattle.std.proofs.Common.{◌+◌, ◌*◌, ◌≤◌, drop, ◌∙◌, ap, sym, arith}
use Rattle.flp_gadget.specs.KindText.{tree_of}
use Rattle.flp_gadget.specs.FlatKind.{product_of}
use Rattle.flp_gadget.proofs.TextLemmas.{under, made-push, product-push, product_small}
use Rattle.flp_gadget.proofs.kind.kind_of.Goals as goal

pub overflow_mul-groups : goal.overflow_mul-groups
overflow_mul-groups c =
    let small : c.loop-step.groups * c.in-Psum.count ≤ 1024 =
    product_small c.loop-step.counts.items c.loop-step.groups c.in-Psum.count
    (tree_of (drop (c.loop-step.step-index + 1) c.args.text.now)) (tree_of c.args.text.now) c.requires
    (made-push c.args.text.now c.loop-step.step-index c.step-item.result c.in-Psum.count c.loop-step.counts.items
    (omega arith) c.step-item.is c.in-Psum.is c.loop-step.invariant.made)
    c.loop-step.invariant.product in
    omega arith

pub loop-step-preserved : goal.loop-step-preserved
loop-step-preserved c = record {
  made = made-push c.args.text.now c.loop-step.step-index c.step-item.result c.in-Psum.count c.loop-step.counts.items
      (omega arith) c.step-item.is c.in-Psum.is c.loop-step.invariant.made
      ∙ ap (λ l. under l (tree_of (drop (c.loop-step.step-index + 1) c.args.text.now)))
      (sym c.in_ok-push-in-Psum.ensures.items);
  product = ap (λ n. n * c.in-Psum.count) c.loop-step.invariant.product
      ∙ sym (product-push c.loop-step.counts.items c.in-Psum.count)
      ∙ ap product_of (sym c.in_ok-push-in-Psum.ensures.items);
}
