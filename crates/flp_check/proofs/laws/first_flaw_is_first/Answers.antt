use Rattle.flp_check.proofs.Firsts.{first_is_first}
use Rattle.flp_check.proofs.laws.first_flaw_is_first.Goals as goal

pub returns : goal.returns
returns c = first_is_first
