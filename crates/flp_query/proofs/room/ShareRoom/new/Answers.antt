use Rattle.std.proofs.Common.{◌∙◌, sym}
use Rattle.flp_plan.proofs.SizeLemmas.{calls-total}
use Rattle.flp_query.proofs.room.ShareRoom.new.Goals as goal

pub returns : goal.returns
returns c =
    record {
      for_answers =
          c.in_ok-answers.ensures.len ∙ c.call_count.ensures
          ∙ sym (calls-total c.args.plan.now.circuit c.is_within_limits.ensures);
      for_points = c.in_ok-points.ensures.len;
      for_row = c.in_ok-row.ensures.len;
      for_sums = c.in_ok-sums.ensures.len;
    }
