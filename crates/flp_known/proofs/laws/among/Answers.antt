use Rattle.flp_known.proofs.AmongLemmas.{is_among-Contains}
use Rattle.flp_known.proofs.laws.among.Goals as goal

pub returns : goal.returns
returns c = is_among-Contains
