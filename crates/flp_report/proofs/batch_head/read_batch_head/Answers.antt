use Rattle.std.proofs.Common.{◌≡◌, ◌+◌, ◌-◌, ◌≤◌, ℕ, List, ◌++◌, Option, None, Some, Err, length, inl, inr, refl, ap, subst, ◌∙◌, arith, append_assoc, length-append}
use Rattle.std.specs.Prelude.{IfSome}
use Rattle.std.specs.Io.KnownBytes.{Consumes}
use Rattle.std.proofs.KnownBytes.{Consumes-trans}
use Rattle.flp_io.specs.Reads.{ConsumesAtMost}
use Rattle.flp_io.proofs.ReadLemmas.{ReadsFrom-after, ReadsFrom-as}
use Rattle.flp_report.specs.declared.fault.ReadFault.TheVariants as read
use Rattle.flp_report.specs.Head.{number_at, numbers_fault}
use Rattle.flp_report.specs.Batch.{batch_letters, head_size, buckets_fault, IsBucketsPart, batch_head_fault, batch_head_takes, IsBatchHeadFault}
use Rattle.flp_report.specs.Reads.{ConsumesWithin, EndedShort}
use Rattle.flp_report.proofs.FaultLemmas.{first_of-two}
use Rattle.flp_report.proofs.KnownLemmas.{IfSome-map, IfBatch-map, IfSome-before, EndedShort-known}
use Rattle.flp_report.proofs.ReadsLemmas.{ConsumesWithin-all, ConsumesWithin-front}
use Rattle.flp_report.proofs.HeadLemmas.{text-cut}
use Rattle.flp_report.proofs.BatchHeadLemmas.{head_least, head-buckets, head-text, takes-least, takes-buckets, takes-text, IsHead-read, IsInLimits-read}
use Rattle.flp_report.proofs.batch_head.read_batch_head.Goals as goal

-- the text ends where the head says how far it is read
fits-text : (newest : ℕ) (party : Option ℕ) (start part : List ℕ) (n buckets : ℕ) → length start ≡ 32 → numbers_fault batch_letters newest party start ≡ None
    → IsBucketsPart (number_at 8 start) part buckets → n ≡ number_at 20 start → (rest : List ℕ) → length (start ++ part) + n ≤ batch_head_takes newest party ((start ++ part) ++ rest)
fits-text newest party start part n buckets long none own is = λ rest.
    let reach = ap (batch_head_takes newest party) (append_assoc start part rest) ∙ takes-text newest party start part rest buckets long none own in
    omega (arith, reach, own.size, length-append start part, long, is)

pub returns-in-Err-clause-fault : goal.returns-in-Err-clause-fault
returns-in-Err-clause-fault g c =
    let left = g.S.Source.left c.args.source.now in
    IfBatch-map _ (λ b. IfSome left (λ bytes. batch_head_fault c.args.newest c.args.party bytes ≡ Some b)) c.in-Err.fault
    (λ b known. IfSome-map _ (λ bytes. batch_head_fault c.args.newest c.args.party bytes ≡ Some b) left (λ bytes is. first_of-two _ _ _ b is) known) c.in-Err.ensures.fault

pub returns-in-Err-clause-kind : goal.returns-in-Err-clause-kind
returns-in-Err-clause-kind g c = IfBatch-map _ (IsBatchHeadFault c.args.newest c.args.party) c.in-Err.fault (λ b kind. inl kind) c.in-Err.ensures.kind

pub returns-in-Err-clause-source : goal.returns-in-Err-clause-source
returns-in-Err-clause-source g c =
    ReadsFrom-as c.in-Err.ensures.source (λ few. ConsumesWithin-all (batch_head_takes c.args.newest c.args.party) _ _ _ few (takes-least c.args.newest c.args.party)) (λ is. let same : c.in-Err.fault ≡ read.Failed = cc in ap Err same) (λ ok. ok)

pub returns-in-Err-read_buckets-clause-fault : goal.returns-in-Err-read_buckets-clause-fault
returns-in-Err-read_buckets-clause-fault g c =
    let start = c.read_start.new.head in
    let left = g.S.Source.left c.args.source.now in
    IfBatch-map _ (λ b. IfSome left (λ bytes. batch_head_fault c.args.newest c.args.party bytes ≡ Some b)) c.in-Err-read_buckets.fault
    (λ b known. IfSome-before (λ bytes. batch_head_fault c.args.newest c.args.party bytes ≡ Some b) (λ rest. buckets_fault c.number_at-version.result rest ≡ Some b) _ _ start c.in-Ok.ensures.bytes known
    (λ rest is. head-buckets c.args.newest c.args.party start rest b c.read_start.auto.head c.in-Ok.ensures.none
    (subst (λ (v : ℕ). buckets_fault v rest ≡ Some b) c.number_at-version.ensures is))) c.in-Err-read_buckets.ensures.fault

pub returns-in-Err-read_buckets-clause-kind : goal.returns-in-Err-read_buckets-clause-kind
returns-in-Err-read_buckets-clause-kind g c = IfBatch-map _ (IsBatchHeadFault c.args.newest c.args.party) c.in-Err-read_buckets.fault (λ b kind. inr (inl kind)) c.in-Err-read_buckets.ensures.kind

pub returns-in-Err-read_buckets-clause-source : goal.returns-in-Err-read_buckets-clause-source
returns-in-Err-read_buckets-clause-source g c =
    let start = c.read_start.new.head in
    let version = c.number_at-version.result in
    let takes = batch_head_takes c.args.newest c.args.party in
    ReadsFrom-after (ConsumesWithin takes) c.in-Ok.ensures.source
    (ReadsFrom-as {takes' = ConsumesAtMost (head_size version - 32)} c.in-Err-read_buckets.ensures.source (λ few. few) (λ is. let same : c.in-Err-read_buckets.fault ≡ read.Failed = cc in ap Err same) (λ ok. ok))
    (λ first few. ConsumesWithin-front takes _ _ _ start (head_size version - 32) c.in-Ok.ensures.bytes few (λ rest.
    let reach = takes-buckets c.args.newest c.args.party start rest c.read_start.auto.head c.in-Ok.ensures.none in
    let same : head_size version ≡ head_size (number_at 8 start) = ap head_size c.number_at-version.ensures in
    omega (arith, reach, same, head_least version, c.read_start.auto.head)))

pub returns-in-Err-read_growing-clause-fault : goal.returns-in-Err-read_growing-clause-fault
returns-in-Err-read_growing-clause-fault g c =
    let start = c.read_start.new.head in
    let (part, is, gone) = c.in-Ok-read_buckets.ensures.bytes in
    let left = g.S.Source.left c.args.source.now in
    let v = c.number_at-version.ensures in
    let own = subst (λ (n : ℕ). IsBucketsPart n part c.in-Ok-read_buckets.buckets) v is in
    let before : c.head_size-before.result ≡ head_size (number_at 8 start) = c.head_size-before.ensures.size ∙ ap head_size v in
    let end : c.head_size-before.result + c.from.result ≡ head_size (number_at 8 start) + number_at 20 start =
    λ i. before i + (c.from.ensures ∙ c.number_at-length.ensures) i in
    IfBatch-map _ (λ b. IfSome left (λ bytes. batch_head_fault c.args.newest c.args.party bytes ≡ Some b)) c.in-Err-read_growing.fault
    (λ b short. IfSome-before (λ bytes. batch_head_fault c.args.newest c.args.party bytes ≡ Some b) (λ rest. batch_head_fault c.args.newest c.args.party (start ++ (part ++ rest)) ≡ Some b) _ _ (start ++ part)
    (Consumes-trans _ _ _ start part c.in-Ok.ensures.bytes gone)
    (EndedShort-known _ _ _ _ b (λ rest. batch_head_fault c.args.newest c.args.party (start ++ (part ++ rest)) ≡ Some b) short
    (λ rest cut.
    let turned : EndedShort (Some rest) (head_size (number_at 8 start)) (number_at 20 start) (head_size (number_at 8 start) + number_at 20 start) b =
    subst (λ (n : ℕ). EndedShort (Some rest) (head_size (number_at 8 start)) (number_at 20 start) n b) end
    (subst (λ (n : ℕ). EndedShort (Some rest) (head_size (number_at 8 start)) n (c.head_size-before.result + c.from.result) b) c.number_at-length.ensures
    (subst (λ (n : ℕ). EndedShort (Some rest) n c.number_at-length.result (c.head_size-before.result + c.from.result) b) before cut)) in
    head-text c.args.newest c.args.party start part rest c.in-Ok-read_buckets.buckets b c.read_start.auto.head c.in-Ok.ensures.none own turned))
    (λ rest found. ap (batch_head_fault c.args.newest c.args.party) (append_assoc start part rest) ∙ found)) c.in-Err-read_growing.ensures.fault

pub returns-in-Err-read_growing-clause-kind : goal.returns-in-Err-read_growing-clause-kind
returns-in-Err-read_growing-clause-kind g c =
    let version = c.number_at-version.result in
    let n = c.number_at-length.result in
    let small : n ≤ 65536 = omega (arith, c.number_at-length.ensures, c.in-Ok.ensures.numbers.text) in
    let end : c.head_size-before.result + c.from.result ≡ head_size version + n = λ i. c.head_size-before.ensures.size i + c.from.ensures i in
    IfBatch-map _ (IsBatchHeadFault c.args.newest c.args.party) c.in-Err-read_growing.fault
    (λ b short.
    let turned = subst (λ (m : ℕ). EndedShort (g.S.Source.left c.read_buckets.new.source) m n (c.head_size-before.result + c.from.result) b) c.head_size-before.ensures.size short in
    inr (inr (version, text-cut (g.S.Source.left c.read_buckets.new.source) (head_size version) n (c.head_size-before.result + c.from.result) b end small turned))) c.in-Err-read_growing.ensures.fault

pub returns-in-Err-read_growing-clause-source : goal.returns-in-Err-read_growing-clause-source
returns-in-Err-read_growing-clause-source g c =
    let start = c.read_start.new.head in
    let (part, is, gone) = c.in-Ok-read_buckets.ensures.bytes in
    let own = subst (λ (n : ℕ). IsBucketsPart n part c.in-Ok-read_buckets.buckets) c.number_at-version.ensures is in
    let both : Consumes (g.S.Source.left c.args.source.now) (g.S.Source.left c.read_buckets.new.source) (start ++ part) = Consumes-trans _ _ _ start part c.in-Ok.ensures.bytes gone in
    ReadsFrom-after (ConsumesWithin (batch_head_takes c.args.newest c.args.party)) (ReadsFrom-after (λ old new. Consumes old new (start ++ part)) c.in-Ok.ensures.source c.in-Ok-read_buckets.ensures.source (λ first second. both))
    (ReadsFrom-as {takes' = ConsumesAtMost c.number_at-length.result} c.in-Err-read_growing.ensures.source (λ few. few) (λ is. let same : c.in-Err-read_growing.fault ≡ read.Failed = cc in ap Err same) (λ ok. ok))
    (λ first few. ConsumesWithin-front (batch_head_takes c.args.newest c.args.party) _ _ _ (start ++ part) c.number_at-length.result both few
    (fits-text c.args.newest c.args.party start part c.number_at-length.result c.in-Ok-read_buckets.buckets c.read_start.auto.head c.in-Ok.ensures.none own c.number_at-length.ensures))

pub returns-clause-bytes : goal.returns-clause-bytes
returns-clause-bytes g c =
    let start = c.read_start.new.head in
    let (part, is, gone) = c.in-Ok-read_buckets.ensures.bytes in
    let items = c.in-Ok-read_growing.text.items in
    let length_of = c.in-Ok-read_growing.ensures.size ∙ c.number_at-length.ensures in (
      start ++ (part ++ items),
      IsHead-read c.args.newest c.args.party start part items _ _ _ _ _ _ c.in-Ok-read_buckets.buckets c.read_start.auto.head c.in-Ok.ensures.none
          c.number_at-version.ensures c.number_at-shares.ensures c.number_at-proofs.ensures c.number_at-claims.ensures c.number_at-reports.ensures c.from_vec-text.ensures is length_of,
      Consumes-trans _ _ _ start (part ++ items) c.in-Ok.ensures.bytes (Consumes-trans _ _ _ part items gone c.in-Ok-read_growing.ensures.bytes),
    )

pub returns-clause-limits : goal.returns-clause-limits
returns-clause-limits g c =
    let start = c.read_start.new.head in
    let (part, is, gone) = c.in-Ok-read_buckets.ensures.bytes in
    let length_of = c.in-Ok-read_growing.ensures.size ∙ c.number_at-length.ensures in
    IsInLimits-read c.args.newest c.args.party start part c.in-Ok-read_growing.text.items _ _ _ _ c.number_at-claims.result c.number_at-reports.result c.in-Ok-read_buckets.buckets c.in-Ok.ensures.numbers
    c.number_at-version.ensures c.number_at-shares.ensures c.number_at-proofs.ensures c.from_vec-text.ensures is length_of

pub returns-clause-source : goal.returns-clause-source
returns-clause-source g c =
    let start = c.read_start.new.head in
    let (part, is, gone) = c.in-Ok-read_buckets.ensures.bytes in
    let own = subst (λ (n : ℕ). IsBucketsPart n part c.in-Ok-read_buckets.buckets) c.number_at-version.ensures is in
    let both : Consumes (g.S.Source.left c.args.source.now) (g.S.Source.left c.read_buckets.new.source) (start ++ part) = Consumes-trans _ _ _ start part c.in-Ok.ensures.bytes gone in
    ReadsFrom-after (ConsumesWithin (batch_head_takes c.args.newest c.args.party)) (ReadsFrom-after (λ old new. Consumes old new (start ++ part)) c.in-Ok.ensures.source c.in-Ok-read_buckets.ensures.source (λ first second. both))
    (ReadsFrom-as {takes' = ConsumesAtMost c.number_at-length.result} c.in-Ok-read_growing.ensures.source (λ few. few) (λ is. let no : ⊥ = cc in absurd no) (λ ok. refl))
    (λ first few. ConsumesWithin-front (batch_head_takes c.args.newest c.args.party) _ _ _ (start ++ part) c.number_at-length.result both few
    (fits-text c.args.newest c.args.party start part c.number_at-length.result c.in-Ok-read_buckets.buckets c.read_start.auto.head c.in-Ok.ensures.none own c.number_at-length.ensures))
