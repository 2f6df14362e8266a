use Rattle.std.proofs.Common.{◌≡◌, ◌∙◌, ◌+◌, ◌-◌, ◌*◌, ◌<◌, ◌≤◌, ℕ, List, take, drop, Some, sym, ap, arith}
use Rattle.flp_report.specs.declared.fault.BatchFault.TheVariants.{Bucket}
use Rattle.flp_report.specs.declared.record.Record.{Record}
use Rattle.flp_report.specs.declared.shape.Shape.{Shape}
use Rattle.flp_report.specs.Shape.{bytes_of}
use Rattle.flp_report.specs.Record.{record_of, shape_of, bucket_in}
use Rattle.flp_report.proofs.PiecesLemmas.{piece}
use Rattle.flp_report.proofs.BucketLemmas.{bucket_from-good, bucket_from-bad, bucket_from-start}
use Rattle.flp_report.proofs.buckets.bad_bucket.Goals as goal

-- the bucket of the record that stands at this index
bucket-at : (s : Shape) (size k bucket : ℕ) (bytes : List ℕ) (given : Record) → size ≡ bytes_of s → record_of given ≡ take (size * k + size - size * k) (drop (size * k) bytes)
    → shape_of given ≡ s → bucket ≡ bucket_in (shape_of given) (record_of given) → bucket ≡ bucket_in s (piece (bytes_of s) k bytes)
bucket-at s size k bucket bytes given sized is own read =
    let length_of : size * k + size - size * k ≡ size = omega arith in
    let cut : record_of given ≡ piece (bytes_of s) k bytes =
    is ∙ (ap (λ (n : ℕ). take n (drop (size * k) bytes)) length_of ∙ ap (λ (n : ℕ). take n (drop (n * k) bytes)) sized) in
    read ∙ (λ i. bucket_in (own i) (cut i))

pub returns-then-bucket-shape : goal.returns-then-bucket-shape
returns-then-bucket-shape c =
    let s = c.args.shape.now in
    let k = c.loop-index.index in
    let bytes = c.args.bytes.now in
    let bucket = bucket-at s c.bytes-size.result k c.bucket-bucket.result bytes c.new.result c.bytes-size.ensures c.new.ensures.bytes c.new.ensures.shape c.bucket-bucket.ensures in
    let bad : s.buckets ≤ bucket_in s (piece (bytes_of s) k bytes) = omega (arith, bucket, c.if-bucket-shape.true) in
    ap (λ (n : ℕ). Some (Bucket (c.args.first + k) n)) bucket
    ∙ (sym (bucket_from-bad s c.args.first k c.args.count bytes c.loop-index-test.true bad)
    ∙ (sym c.loop-index.invariant ∙ bucket_from-start s c.args.first c.args.count bytes))

pub loop-index-preserved : goal.loop-index-preserved
loop-index-preserved c =
    let s = c.args.shape.now in
    let k = c.loop-index.index in
    let bytes = c.args.bytes.now in
    let bucket = bucket-at s c.bytes-size.result k c.bucket-bucket.result bytes c.new.result c.bytes-size.ensures c.new.ensures.bytes c.new.ensures.shape c.bucket-bucket.ensures in
    let good : bucket_in s (piece (bytes_of s) k bytes) < s.buckets = omega (arith, bucket, c.if-bucket-shape.false) in
    c.loop-index.invariant ∙ bucket_from-good s c.args.first k c.args.count bytes c.loop-index-test.true good
