use Rattle.std.proofs.Common.{ap, None, Some}
use Rattle.std.proofs.lemmas.List.{get_or-replicate}
use Rattle.flp_policy.specs.Rooms.{leaves}
use Rattle.flp_policy.proofs.ceiling.CeilingRejected.new.Goals as goal

-- src/ceiling.rt:18:5
pub returns : goal.returns
returns c more of inside = ap (λ left. leaves left more.rejected) (get_or-replicate 256 of (Some c.args.most) None inside)
