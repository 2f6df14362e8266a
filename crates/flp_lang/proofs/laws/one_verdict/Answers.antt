use Rattle.flp_lang.specs.Run.{verdict}
use Rattle.flp_lang.proofs.OneVerdict.{one_verdict}
use Rattle.flp_lang.proofs.Verdicts.{judged, one_text}
use Rattle.flp_lang.proofs.laws.one_verdict.Goals as goal

pub returns : goal.returns
returns c = record { some = λ tokens. (verdict tokens, judged tokens); verdict = one_verdict; circuit = one_text }
