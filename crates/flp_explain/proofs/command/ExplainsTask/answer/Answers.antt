use Rattle.std.proofs.Common.{refl}
use Rattle.std.proofs.lemmas.Result.{IfOk-weaker}
use Rattle.flp_explain.specs.Text.{record_lines}
use Rattle.flp_explain.proofs.ToldLemmas.{standard-some}
use Rattle.flp_explain.proofs.command.ExplainsTask.answer.Goals as goal

pub new-explaining-requires-clause-standard : goal.new-explaining-requires-clause-standard
new-explaining-requires-clause-standard g c = standard-some _ _ _ _ c.requires.opened.text c.requires.opened.shape.meas

pub walk-requires-clause-new : goal.walk-requires-clause-new
walk-requires-clause-new g c =
    IfOk-weaker c.new-explaining.result _ _ (λ explaining is. record { shape_is = is; fresh = tt; none = refl }) c.new-explaining.ensures.shape

pub returns-clause-done : goal.returns-clause-done
unfolding record_lines
returns-clause-done g c = c.walk.ensures.done _ c.new-explaining.ensures.words

pub returns-clause-stopped : goal.returns-clause-stopped
unfolding record_lines
returns-clause-stopped g c = c.walk.ensures.stopped _ c.new-explaining.ensures.words

pub returns-clause-settled : goal.returns-clause-settled
unfolding record_lines
returns-clause-settled g c = c.walk.ensures.settled _ c.new-explaining.ensures.words
