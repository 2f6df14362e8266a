use Rattle.std.proofs.Common.{◌≡◌, Option, true, ap, sym, ◌∙◌}
use Rattle.std.specs.Prelude.{is_none}
use Rattle.flp_syntax.specs.declared.syntax.Params.{Params}
use Rattle.flp_report.specs.declared.job_shape.JobShape.{JobShape}
use Rattle.flp_report.specs.JobParts.{job_of, job_shape_of, input_in}
use Rattle.flp_batch.specs.JobSetting.{input_count}
use Rattle.flp_jobs.proofs.JobLemmas.{read-good, shape-good, input-good}
use Rattle.flp_jobs.proofs.parts.write_encoding.Goals as goal

pub load-requires-clause-below : goal.load-requires-clause-below
load-requires-clause-below c =
    let s = job_shape_of c.args.job.now in
    let job = job_of c.args.job.now in
    let file = c.args.file.now in
    let setting = c.requires.whole.setting in
    let none = c.in-None.is in
    let words : file.shape.input ≡ file.shape.meas = setting.shape.input ∙ (ap (λ (o : Option Params). input_count o file.loaded.plan.circuit) none ∙ sym setting.shape.of_record.meas) in
    let checked : s.checked ≡ true = ap (λ (s : JobShape). s.checked) c.requires.job.shape ∙ (setting.shape.checked ∙ ap (λ (o : Option Params). is_none o) none) in
    let count = c.requires.x ∙ (sym words ∙ sym (ap (λ (s : JobShape). s.input) c.requires.job.shape)) in
    read-good c.input-in-None.result.now (input_in s job) _ s.input c.input-in-None.ensures count
    (input-good s job checked (shape-good s file.shape job c.requires.job.shape c.requires.job.words))
