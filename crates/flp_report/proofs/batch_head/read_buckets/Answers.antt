use Rattle.std.proofs.Common.{◌≡◌, ◌-◌, ℕ, [], Some, sym, subst}
use Rattle.std.specs.Prelude.{IfErr, IfOk, IfSome, List}
use Rattle.std.specs.Io.KnownBytes.{Consumes}
use Rattle.std.proofs.KnownBytes.{Consumes-nil}
use Rattle.flp_io.specs.Reads.{ConsumesAtMost}
use Rattle.flp_io.proofs.ReadLemmas.{ConsumesAtMost-none, ReadsFrom-none, ReadsFrom-as}
use Rattle.flp_report.specs.Fault.{IfBatch}
use Rattle.flp_report.specs.Batch.{head_size, buckets_fault, IsBucketsPart}
use Rattle.flp_report.proofs.BatchHeadLemmas.{no_part}
use Rattle.flp_report.proofs.batch_head.read_buckets.Goals as goal

pub returns-then-version-eq2-clause-bytes : goal.returns-then-version-eq2-clause-bytes
returns-then-version-eq2-clause-bytes g c =
    let old = g.S.Source.left c.args.source.now in
    let new = g.S.Source.left c.read_count.new.source in
    subst (λ (v : ℕ). IfOk c.read_count.result (λ buckets. (part : List ℕ) × IsBucketsPart v part buckets × Consumes old new part)) (sym c.if-version-eq2.true) c.read_count.ensures.bytes

pub returns-then-version-eq2-clause-fault : goal.returns-then-version-eq2-clause-fault
returns-then-version-eq2-clause-fault g c =
    let old = g.S.Source.left c.args.source.now in
    subst (λ (v : ℕ). IfErr c.read_count.result (λ fault. IfBatch fault (λ b. IfSome old (λ rest. buckets_fault v rest ≡ Some b)))) (sym c.if-version-eq2.true) c.read_count.ensures.fault

pub returns-then-version-eq2-clause-source : goal.returns-then-version-eq2-clause-source
returns-then-version-eq2-clause-source g c =
    let old = g.S.Source.left c.args.source.now in
    let new = g.S.Source.left c.read_count.new.source in
    let P : ℕ → Type 0 = λ v. ConsumesAtMost (head_size v - 32) old new in
    ReadsFrom-as c.read_count.ensures.source (λ few. subst P (sym c.if-version-eq2.true) few) (λ is. is) (λ ok. ok)

pub returns-clause-bytes : goal.returns-clause-bytes
returns-clause-bytes g c = ([], no_part c.args.version c.if-version-eq2.false, Consumes-nil (g.S.Source.left c.args.source.now))

pub returns-clause-source : goal.returns-clause-source
returns-clause-source g c = ReadsFrom-none c.args.source.now (ConsumesAtMost-none _ _) (λ is. let no : ⊥ = cc in absurd no) (λ ok. c.requires)
