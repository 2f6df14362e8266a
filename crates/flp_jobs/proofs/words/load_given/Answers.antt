use Rattle.std.proofs.Common.{◌-◌, ◌*◌, ap, sym, ◌∙◌}
use Rattle.flp_report.specs.declared.job_shape.JobShape.{JobShape}
use Rattle.flp_report.specs.Job.{job_part_of}
use Rattle.flp_report.specs.JobParts.{job_of, job_shape_of, parts_in}
use Rattle.flp_jobs.proofs.JobLemmas.{read-good, shape-good, given-good}
use Rattle.flp_jobs.proofs.words.load_given.Goals as goal

pub load-requires-clause-below : goal.load-requires-clause-below
load-requires-clause-below c =
    let s = job_shape_of c.args.job.now in
    let job = job_of c.args.job.now in
    let count = c.requires.given ∙ sym (ap (λ (s : JobShape). (s.shares - 1) * job_part_of s) c.requires.job.shape) in
    read-good c.parts.result.now (parts_in s job) _ ((s.shares - 1) * job_part_of s) c.parts.ensures count
    (given-good s job (shape-good s c.args.file.now.shape job c.requires.job.shape c.requires.job.words))
