use Rattle.std.proofs.Common.{refl, ap}
use Rattle.flp_batch.specs.Opened.{setting_of}
use Rattle.flp_batch.specs.Setting.{Setting}
use Rattle.flp_batch.proofs.OutcomeLemmas.{IfOk-both}
use Rattle.flp_prep.specs.Text.{words_by}
use Rattle.flp_prep.proofs.LineLemmas.{words-same}
use Rattle.flp_prep.proofs.command.PreparesTask.answer.Goals as goal

pub walk-requires-clause-new : goal.walk-requires-clause-new
walk-requires-clause-new g c =
    IfOk-both c.new-preparing.result _ _ _ c.new-preparing.ensures.setting c.new-preparing.ensures.fresh
    (λ preparing is fresh. record { shape_is = ap (λ (by : Setting). by.shape) is; fresh = fresh; none = refl })

pub returns-clause-done : goal.returns-clause-done
returns-clause-done g c =
    c.walk.ensures.done (words_by c.args.self.now.party (setting_of c.args.opened.now)) (words-same c.new-preparing.result _ _ c.new-preparing.ensures.setting c.new-preparing.ensures.party)

pub returns-clause-stopped : goal.returns-clause-stopped
returns-clause-stopped g c =
    c.walk.ensures.stopped (words_by c.args.self.now.party (setting_of c.args.opened.now)) (words-same c.new-preparing.result _ _ c.new-preparing.ensures.setting c.new-preparing.ensures.party)

pub returns-clause-settled : goal.returns-clause-settled
returns-clause-settled g c =
    c.walk.ensures.settled (words_by c.args.self.now.party (setting_of c.args.opened.now)) (words-same c.new-preparing.result _ _ c.new-preparing.ensures.setting c.new-preparing.ensures.party)
