use Rattle.std.proofs.Common.{◌≡◌, ◌+◌, ◌-◌, ◌*◌, arith}
use Rattle.flp_report.specs.Job.{job_bytes_of}
use Rattle.flp_report.proofs.PiecesLemmas.{slice_get-pieces}
use Rattle.flp_report.proofs.job.Jobs.job_at.Goals as goal

pub returns-clause-numbered : goal.returns-clause-numbered
returns-clause-numbered c =
    let jobs = c.args.self.now in
    let size = c.bytes-size.result in
    let length_of : size * c.args.index + size - size * c.args.index ≡ size = omega arith in
    rw (length_of, c.deref.ensures.value, c.bytes-size.ensures.bytes) (slice_get-pieces (job_bytes_of jobs.shape) jobs.count c.args.index jobs.bytes.items c.requires)
