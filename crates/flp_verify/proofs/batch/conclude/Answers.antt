use Rattle.std.proofs.Common.{◌∙◌, refl}
use Rattle.flp_verify.proofs.WholeLemmas.{IsCounted-behind}
use Rattle.flp_verify.proofs.batch.conclude.Goals as goal

pub returns : goal.returns
returns g c = λ least start records s p.
    IsCounted-behind c.args.front.now least start _ records _ s p refl refl (c.end_by-end.ensures ∙ c.first_refusal.ensures) c.args.front.now.outs c.in_ok-tally.ensures.seen
