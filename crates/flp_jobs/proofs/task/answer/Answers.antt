use Rattle.std.proofs.Common.{◌≡◌, None, sym, ap, rules, ◌∙◌}
use Rattle.flp_report.specs.JobParts.{jobs_in}
use Rattle.flp_jobs.specs.declared.rules.Rules.{Rules}
use Rattle.flp_jobs.specs.Place.{bad_place}
use Rattle.flp_jobs.specs.Reading.{setting_of}
use Rattle.std.proofs.lemmas.Result.{on_ok_weaker}
use Rattle.flp_jobs.proofs.ReplyLemmas.{MakesText-from, place-refused}
use Rattle.flp_jobs.proofs.task.answer.Goals as goal

pub returns-in-Some-clause-fault : goal.returns-in-Some-clause-fault
returns-in-Some-clause-fault g c = λ left left' reads.
    let file = c.args.file.now in
    let asked = g.T.JobTask.asked c.args.task.now in
    let same = ap (λ (r : Rules). bad_place r.joints (setting_of file) (jobs_in file.jobs)) c.rules.ensures in
    place-refused asked left left' file reads _ _ (sym same ∙ sym c.in-Some.ensures)

pub returns-clause-done : goal.returns-clause-done
returns-clause-done g c =
    let file = c.args.file.now in
    let asked = g.T.JobTask.asked c.args.task.now in
    let good : bad_place asked.joints (setting_of file) (jobs_in file.jobs) ≡ None = search rules in
    on_ok_weaker c.write_text.result (λ written left left' reads. MakesText-from asked left left' file reads (g.T.JobTask.text c.args.task.now) _ good written) c.write_text.ensures.done

pub returns-clause-stopped : goal.returns-clause-stopped
returns-clause-stopped g c = λ is left left' reads.
    let file = c.args.file.now in
    let asked = g.T.JobTask.asked c.args.task.now in
    let good : bad_place asked.joints (setting_of file) (jobs_in file.jobs) ≡ None = search rules in
    MakesText-from asked left left' file reads (g.T.JobTask.text c.args.task.now) _ good (c.write_text.ensures.stopped is)
