use Rattle.std.proofs.Common.{◌≡◌, ◌+◌, ◌*◌, take}
use Rattle.std.specs.List.{range_with_len, flat_map}
use Rattle.flp_report.specs.JobParts.{job_of}
use Rattle.flp_jobs.specs.Record.{own_words}
use Rattle.flp_jobs.proofs.words.write_all_own.Given as goal

abbrev pub invariant-loop-proof : goal.invariant-loop-proof
invariant-loop-proof l =
    take (l.proof * (l.file.shape.joint + l.file.shape.query)) l.own ≡ flat_map (own_words l.file.shape (job_of l.job)) (range_with_len 0 l.proof)
