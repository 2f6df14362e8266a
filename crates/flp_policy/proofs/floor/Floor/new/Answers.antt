use Rattle.std.proofs.Common.{ap, nat_le}
use Rattle.std.proofs.lemmas.List.{get_or-replicate}
use Rattle.flp_policy.proofs.floor.Floor.new.Goals as goal

-- src/floor.rt:16:5
pub returns : goal.returns
returns c more of inside = ap (λ needed. nat_le needed more.accepted) (get_or-replicate 256 of c.args.least 0 inside)
