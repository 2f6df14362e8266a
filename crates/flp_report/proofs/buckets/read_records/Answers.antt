use Rattle.std.proofs.Common.{◌≡◌, ◌*◌, ℕ, length, ap, arith}
use Rattle.std.proofs.lemmas.List.{length-take}
use Rattle.flp_report.specs.Shape.{bytes_of}
use Rattle.flp_report.proofs.BucketLemmas.{came-bad, came-short, came-all, came-kind}
use Rattle.flp_report.proofs.buckets.read_records.Goals as goal

pub returns-in-Some-clause-fault : goal.returns-in-Some-clause-fault
returns-in-Some-clause-fault g c =
    let s = c.args.shape.now in
    let same : c.args.count * c.bytes-size.result ≡ c.args.count * bytes_of s = ap (λ (n : ℕ). c.args.count * n) c.bytes-size.ensures in
    let long : length c.fill.new.buf ≡ c.args.count * bytes_of s = omega (arith, c.fill.auto.buf, length-take {A = ℕ}, same, c.requires.room) in
    came-bad s c.args.first c.args.before c.args.count c.args.need c.in-Ok.came c.bytes-size.result _ _ c.fill.new.buf _ c.in-Some.fault c.bytes-size.ensures long c.in-Ok.ensures.bound.0 c.in-Ok.ensures.bytes c.in-Ok.ensures.end c.in-Some.ensures

pub returns-in-Some-clause-kind : goal.returns-in-Some-clause-kind
returns-in-Some-clause-kind g c =
    let s = c.args.shape.now in
    let same : c.args.count * c.bytes-size.result ≡ c.args.count * bytes_of s = ap (λ (n : ℕ). c.args.count * n) c.bytes-size.ensures in
    let long : length c.fill.new.buf ≡ c.args.count * bytes_of s = omega (arith, c.fill.auto.buf, length-take {A = ℕ}, same, c.requires.room) in
    came-kind s c.args.first c.args.before c.args.count c.args.need c.in-Ok.came c.bytes-size.result _ c.in-Some.fault c.bytes-size.ensures (omega (arith, long, c.in-Ok.ensures.bound.0)) c.in-Some.ensures

pub returns-then-came-wanted-clause-fault : goal.returns-then-came-wanted-clause-fault
returns-then-came-wanted-clause-fault g c =
    let s = c.args.shape.now in
    let same : c.args.count * c.bytes-size.result ≡ c.args.count * bytes_of s = ap (λ (n : ℕ). c.args.count * n) c.bytes-size.ensures in
    let long : length c.fill.new.buf ≡ c.args.count * bytes_of s = omega (arith, c.fill.auto.buf, length-take {A = ℕ}, same, c.requires.room) in
    came-short s c.args.first c.args.before c.args.count c.args.need c.in-Ok.came c.bytes-size.result _ _ c.fill.new.buf _ c.bytes-size.ensures long (omega (arith, long, same, c.if-came-wanted.true)) c.in-Ok.ensures.bytes c.in-Ok.ensures.end c.in-None.ensures

pub returns-clause-buckets : goal.returns-clause-buckets
returns-clause-buckets g c =
    let s = c.args.shape.now in
    let same : c.args.count * c.bytes-size.result ≡ c.args.count * bytes_of s = ap (λ (n : ℕ). c.args.count * n) c.bytes-size.ensures in
    let long : length c.fill.new.buf ≡ c.args.count * bytes_of s = omega (arith, c.fill.auto.buf, length-take {A = ℕ}, same, c.requires.room) in
    came-all s c.args.first c.args.count c.in-Ok.came c.bytes-size.result _ c.bytes-size.ensures (omega (arith, same, c.if-came-wanted.false)) (omega (arith, long, c.in-Ok.ensures.bound.0)) c.in-None.ensures
