use Rattle.std.proofs.Common.{ap, sym, ◌∙◌}
use Rattle.flp_report.specs.declared.job_shape.JobShape.{JobShape}
use Rattle.flp_report.specs.JobParts.{job_of, job_shape_of, job_joint_in}
use Rattle.flp_jobs.proofs.JobLemmas.{read-size, read-good, own-proof, shape-good, length-joint, joint-good}
use Rattle.flp_jobs.proofs.parts.load_joint.Goals as goal

pub load-requires-clause-size : goal.load-requires-clause-size
load-requires-clause-size c =
    let s = job_shape_of c.args.job.now in
    let job = job_of c.args.job.now in
    let below = own-proof s c.args.file.now.shape c.args.proof c.requires.job.shape c.requires.proof in
    let count = c.requires.joint ∙ sym (ap (λ (s : JobShape). s.joint) c.requires.job.shape) in
    read-size c.joint.result.now (job_joint_in s job c.args.proof) _ s.joint c.joint.ensures count (length-joint s job c.args.proof below c.args.job.now.whole)

pub load-requires-clause-below : goal.load-requires-clause-below
load-requires-clause-below c =
    let s = job_shape_of c.args.job.now in
    let job = job_of c.args.job.now in
    let below = own-proof s c.args.file.now.shape c.args.proof c.requires.job.shape c.requires.proof in
    let count = c.requires.joint ∙ sym (ap (λ (s : JobShape). s.joint) c.requires.job.shape) in
    read-good c.joint.result.now (job_joint_in s job c.args.proof) _ s.joint c.joint.ensures count
    (joint-good s job c.args.proof below (shape-good s c.args.file.now.shape job c.requires.job.shape c.requires.job.words))
