use Rattle.std.proofs.Common.{sym, ◌∙◌}
use Rattle.flp_forms.proofs.LineLemmas.{public_at-constant}
use Rattle.flp_forms.proofs.steps.Steps.scale_of.Goals as goal

pub returns-then-value-eq1 : goal.returns-then-value-eq1
returns-then-value-eq1 c = record {
  fits = tt;
  value =
      λ joint.
      sym c.if-value-eq1.true ∙ c.value.ensures.same
      ∙ sym (public_at-constant c.args.self.now (record { joint = c.self.inside.joint; steps = c.self.inside.items.items })
      c.args.step c.in-Constant.word c.index.result.now c.self.view_is c.self.invariant c.requires c.index.ensures
      c.in-Constant.is joint);
}

pub returns-then-value : goal.returns-then-value
returns-then-value c = record {
  fits = tt;
  value =
      λ joint.
      sym c.if-value.true ∙ c.value-in-Constant.ensures.same
      ∙ sym (public_at-constant c.args.self.now (record { joint = c.self.inside.joint; steps = c.self.inside.items.items })
      c.args.step c.in-Constant.word c.index.result.now c.self.view_is c.self.invariant c.requires c.index.ensures
      c.in-Constant.is joint);
}
