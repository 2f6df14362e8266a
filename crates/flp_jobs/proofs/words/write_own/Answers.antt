use Rattle.std.proofs.Common.{◌≡◌, length, ap, sym, ◌∙◌, arith}
use Rattle.flp_report.specs.declared.job_shape.JobShape.{JobShape}
use Rattle.flp_report.specs.JobParts.{job_of, job_shape_of, job_joint_in, job_query_in}
use Rattle.flp_jobs.proofs.JobLemmas.{read-size, own-proof, length-joint, length-query}
use Rattle.flp_jobs.proofs.words.write_own.Goals as goal

pub load_numbers-requires : goal.load_numbers-requires
load_numbers-requires c =
    let s = job_shape_of c.args.job.now in
    let job = job_of c.args.job.now in
    let below = own-proof s c.args.file.now.shape c.args.proof c.requires.job.shape c.requires.proof in
    let count = c.split_at_mut-joint.ensures.front_len ∙ sym (ap (λ (s : JobShape). s.joint) c.requires.job.shape) in
    read-size c.joint.result.now (job_joint_in s job c.args.proof) _ s.joint c.joint.ensures count (length-joint s job c.args.proof below c.args.job.now.whole)

pub load_numbers-requires-2 : goal.load_numbers-requires-2
load_numbers-requires-2 c =
    let s = job_shape_of c.args.job.now in
    let job = job_of c.args.job.now in
    let below = own-proof s c.args.file.now.shape c.args.proof c.requires.job.shape c.requires.proof in
    let behind : length c.split_at_mut-joint.result.1.now ≡ c.args.file.now.shape.query = omega (arith, c.split_at_mut-joint.ensures.back_len, c.requires.own) in
    let count = behind ∙ sym (ap (λ (s : JobShape). s.query) c.requires.job.shape) in
    read-size c.query.result.now (job_query_in s job c.args.proof) _ s.query c.query.ensures count (length-query s job c.args.proof below c.args.job.now.whole)
