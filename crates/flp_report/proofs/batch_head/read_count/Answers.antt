use Rattle.std.proofs.Common.{◌≡◌, ◌≤◌, ℕ, Some, refl, sym, subst}
use Rattle.std.specs.Prelude.{IfSome}
use Rattle.byteorder.specs.Endian.{little_number}
use Rattle.flp_io.proofs.ReadLemmas.{ReadsFrom-as}
use Rattle.flp_report.specs.Batch.{buckets_fault, IsBucketsPart, IsBucketsFault}
use Rattle.flp_report.proofs.KnownLemmas.{IfBatch-map, IfSome-consumed, EndedShort-known}
use Rattle.flp_report.proofs.BatchHeadLemmas.{four_part, buckets-short, buckets-cut, buckets-outside, outside-kind}
use Rattle.flp_report.proofs.batch_head.read_count.Goals as goal

pub returns-in-Err-clause-fault : goal.returns-in-Err-clause-fault
returns-in-Err-clause-fault g c =
    let left = g.S.Source.left c.args.source.now in
    IfBatch-map _ (λ b. IfSome left (λ rest. buckets_fault 2 rest ≡ Some b)) c.in-Err.fault
    (λ b short. EndedShort-known left 32 4 36 b (λ rest. buckets_fault 2 rest ≡ Some b) short (λ rest cut. buckets-short rest b cut)) c.in-Err.ensures.fault

pub returns-in-Err-clause-kind : goal.returns-in-Err-clause-kind
returns-in-Err-clause-kind g c =
    IfBatch-map _ IsBucketsFault c.in-Err.fault (λ b short. buckets-cut (g.S.Source.left c.args.source.now) b short) c.in-Err.ensures.fault

pub returns-in-Ok-check_buckets-clause-bytes : goal.returns-in-Ok-check_buckets-clause-bytes
returns-in-Ok-check_buckets-clause-bytes g c =
    let part = c.read_whole.new.buf in
    let number : c.in-Ok-check_buckets.buckets ≡ little_number 4 part = c.in-Ok-check_buckets.ensures.number in
    let P : ℕ → Type 0 = λ n. 1 ≤ n in
    let Q : ℕ → Type 0 = λ n. n ≤ 256 in
    let is = four_part 2 part refl c.read_whole.auto.buf (subst P number c.in-Ok-check_buckets.ensures.least) (subst Q number c.in-Ok-check_buckets.ensures.most) in
    (part, subst (IsBucketsPart 2 part) (sym number) is, c.in-Ok.ensures.bytes)

pub returns-in-Ok-check_buckets-clause-source : goal.returns-in-Ok-check_buckets-clause-source
returns-in-Ok-check_buckets-clause-source g c =
    ReadsFrom-as c.in-Ok.ensures.source (λ few. few) (λ is. let no : ⊥ = cc in absurd no) (λ ok. refl)

pub returns-in-Err-check_buckets-clause-fault : goal.returns-in-Err-check_buckets-clause-fault
returns-in-Err-check_buckets-clause-fault g c =
    let part = c.read_whole.new.buf in
    let b = c.in-Err-check_buckets.fault in
    IfSome-consumed (λ bytes. buckets_fault 2 bytes ≡ Some b) _ _ part c.in-Ok.ensures.bytes
    (λ rest. buckets-outside part rest b c.read_whole.auto.buf c.in-Err-check_buckets.ensures.fault c.in-Err-check_buckets.ensures.outside)

pub returns-in-Err-check_buckets-clause-kind : goal.returns-in-Err-check_buckets-clause-kind
returns-in-Err-check_buckets-clause-kind g c =
    outside-kind (little_number 4 c.read_whole.new.buf) c.in-Err-check_buckets.fault c.in-Err-check_buckets.ensures.fault c.in-Err-check_buckets.ensures.outside

pub returns-in-Err-check_buckets-clause-source : goal.returns-in-Err-check_buckets-clause-source
returns-in-Err-check_buckets-clause-source g c =
    ReadsFrom-as c.in-Ok.ensures.source (λ few. few) (λ is. let no : ⊥ = cc in absurd no) (λ ok. let no : ⊥ = cc in absurd no)
