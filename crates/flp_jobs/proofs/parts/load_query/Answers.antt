use Rattle.std.proofs.Common.{ap, sym, ◌∙◌}
use Rattle.flp_report.specs.declared.job_shape.JobShape.{JobShape}
use Rattle.flp_report.specs.JobParts.{job_of, job_shape_of, job_query_in}
use Rattle.flp_jobs.proofs.JobLemmas.{read-size, read-good, own-proof, shape-good, length-query, query-good}
use Rattle.flp_jobs.proofs.parts.load_query.Goals as goal

pub load-requires-clause-size : goal.load-requires-clause-size
load-requires-clause-size c =
    let s = job_shape_of c.args.job.now in
    let job = job_of c.args.job.now in
    let below = own-proof s c.args.file.now.shape c.args.proof c.requires.job.shape c.requires.proof in
    let count = c.requires.query ∙ sym (ap (λ (s : JobShape). s.query) c.requires.job.shape) in
    read-size c.query.result.now (job_query_in s job c.args.proof) _ s.query c.query.ensures count (length-query s job c.args.proof below c.args.job.now.whole)

pub load-requires-clause-below : goal.load-requires-clause-below
load-requires-clause-below c =
    let s = job_shape_of c.args.job.now in
    let job = job_of c.args.job.now in
    let below = own-proof s c.args.file.now.shape c.args.proof c.requires.job.shape c.requires.proof in
    let count = c.requires.query ∙ sym (ap (λ (s : JobShape). s.query) c.requires.job.shape) in
    read-good c.query.result.now (job_query_in s job c.args.proof) _ s.query c.query.ensures count
    (query-good s job c.args.proof below (shape-good s c.args.file.now.shape job c.requires.job.shape c.requires.job.words))
