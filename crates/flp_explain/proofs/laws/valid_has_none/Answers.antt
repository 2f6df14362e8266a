use Rattle.flp_explain.proofs.FalseLemmas.{none_is_valid}
use Rattle.flp_explain.proofs.laws.valid_has_none.Goals as goal

pub returns : goal.returns
returns c = none_is_valid
