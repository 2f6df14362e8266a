use Rattle.flp_explain.proofs.FalseLemmas.{limits_false_reports}
use Rattle.flp_explain.proofs.laws.false_reports.Goals as goal

pub returns : goal.returns
returns c = λ text params program loaded shape fits. limits_false_reports program shape (c.loaded_is_bounded.ensures text params program loaded) fits
