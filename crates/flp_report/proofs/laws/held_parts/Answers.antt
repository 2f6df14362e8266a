use Rattle.std.proofs.Common.{◌≡◌, ◌*◌, length, arith}
use Rattle.flp_report.proofs.SegmentLemmas.{IsCut-held}
use Rattle.flp_report.proofs.PiecesLemmas.{IsCut-pieces}
use Rattle.flp_report.specs.Job.{job_bytes_of}
use Rattle.flp_report.proofs.laws.held_parts.Goals as goal

pub returns-clause-records : goal.returns-clause-records
returns-clause-records c = IsCut-held

pub returns-clause-jobs : goal.returns-clause-jobs
returns-clause-jobs c = λ j. IsCut-pieces (job_bytes_of j.shape) j.count j.bytes.items j.whole

pub returns-clause-nonces : goal.returns-clause-nonces
returns-clause-nonces c = λ n.
    let whole : length n.bytes.items ≡ n.count * 16 = omega (arith, n.whole) in
    IsCut-pieces 16 n.count n.bytes.items whole
