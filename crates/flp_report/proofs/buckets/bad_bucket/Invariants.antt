use Rattle.std.proofs.Common.{◌≡◌}
use Rattle.flp_report.proofs.BucketLemmas.{bucket_from}
use Rattle.flp_report.proofs.buckets.bad_bucket.Given as goal

abbrev pub invariant-loop-index : goal.invariant-loop-index
invariant-loop-index l = bucket_from l.shape l.first 0 l.count l.bytes ≡ bucket_from l.shape l.first l.index l.count l.bytes
