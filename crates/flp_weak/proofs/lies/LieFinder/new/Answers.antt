use Rattle.std.proofs.Common.{vec_len, sym, subst, ◌∙◌}
use Rattle.flp_plan.specs.declared.sizes.Sizes.{Sizes}
use Rattle.flp_plan.proofs.SizeLemmas.{calls-total}
use Rattle.flp_weak.specs.Room.{HoldsLies}
use Rattle.flp_weak.proofs.lies.LieFinder.new.Goals as goal

pub invariant_of-result : goal.invariant_of-result
invariant_of-result c =
    subst
    (λ (sizes : Sizes).
    HoldsLies sizes (vec_len c.in_ok-publics.publics) (vec_len c.in_ok-answers.answers) (vec_len c.in_ok-points.points) (vec_len c.in_ok-formula.formula))
    (sym c.in_ok-wires.ensures)
    (record {
      for_publics = c.in_ok-publics.ensures.len ∙ c.publics_len.ensures;
      for_answers =
          c.in_ok-answers.ensures.len ∙ c.call_count.ensures
          ∙ sym (calls-total c.args.plan.now.circuit c.is_within_limits.ensures);
      for_points = c.in_ok-points.ensures.len;
      for_formula = c.in_ok-formula.ensures.len;
    })
