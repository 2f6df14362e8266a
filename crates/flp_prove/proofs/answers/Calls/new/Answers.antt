use Rattle.std.proofs.Common.{◌∙◌, sym}
use Rattle.flp_plan.proofs.SizeLemmas.{calls-total}
use Rattle.flp_prove.proofs.answers.Calls.new.Goals as goal

pub returns : goal.returns
returns c = record {
  for_publics = c.in_ok-publics.ensures.len ∙ c.publics_len.ensures;
  for_inputs = c.in_ok-inputs.ensures.len;
  for_values = c.in_ok-values.ensures.len ∙ c.call_count.ensures ∙ sym (calls-total c.args.plan.now.circuit c.is_within_limits.ensures);
}
