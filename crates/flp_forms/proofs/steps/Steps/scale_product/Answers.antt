use Rattle.std.proofs.Common.{arith}
use Rattle.flp_forms.proofs.LineLemmas.{grows_trans, scales_product}
use Rattle.flp_forms.proofs.steps.Steps.scale_product.Goals as goal

pub returns-in_ok-product-in_default : goal.returns-in_ok-product-in_default
returns-in_ok-product-in_default c = record {
  grows =
      grows_trans c.args.self.now c.step_of.new.self c.product.new.self c.in_ok-first-in_default.ensures.grows
      (grows_trans c.step_of.new.self c.step_of-in_default.new.self c.product.new.self
      c.in_ok-second-in_default.ensures.grows c.in_ok-product-in_default.ensures.grows);
  few =
      omega (
        arith,
        c.in_ok-first-in_default.ensures.few,
        c.in_ok-second-in_default.ensures.few,
        c.in_ok-product-in_default.ensures.few,
      );
  value =
      scales_product c.args.self.now c.step_of.new.self c.step_of-in_default.new.self c.product.new.self c.args.left
      c.args.right c.in_ok-first-in_default.first c.in_ok-second-in_default.second c.in_ok-product-in_default.product
      c.requires.right c.in_ok-first-in_default.ensures.grows c.in_ok-second-in_default.ensures.grows
      c.in_ok-first-in_default.ensures.value c.in_ok-second-in_default.ensures.value
      c.in_ok-product-in_default.ensures.value;
}
