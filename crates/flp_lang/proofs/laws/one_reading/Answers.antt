use Rattle.flp_lang.proofs.OneVerdict.{some_reading, one_tokens, not_stuck, one_stuck, one_answer}
use Rattle.flp_lang.proofs.laws.one_reading.Goals as goal

pub returns : goal.returns
returns c = record { some = some_reading; tokens = one_tokens; apart = not_stuck; stuck = one_stuck; verdict = one_answer }
