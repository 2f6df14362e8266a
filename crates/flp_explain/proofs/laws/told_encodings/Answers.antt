use Rattle.std.specs.Prelude.{Some}
use Rattle.flp_explain.proofs.ToldLemmas.{keeps_told}
use Rattle.flp_explain.proofs.laws.told_encodings.Goals as goal

pub returns : goal.returns
returns c = λ text params program loaded shape fits. keeps_told c.joint_words.ensures text params program shape loaded (c.loaded_is_bounded.ensures text (Some params) program loaded) fits
