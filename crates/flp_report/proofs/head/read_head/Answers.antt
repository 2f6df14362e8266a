use Rattle.std.proofs.Common.{◌≡◌, ◌++◌, ◌+◌, ◌≤◌, ℕ, Some, Err, inl, inr, length, ap, arith}
use Rattle.std.specs.Prelude.{IfSome}
use Rattle.std.proofs.KnownBytes.{Consumes-trans}
use Rattle.flp_io.proofs.ReadLemmas.{ReadsFrom-after, ReadsFrom-as}
use Rattle.flp_report.specs.declared.fault.ReadFault.TheVariants as read
use Rattle.flp_report.specs.Head.{head_fault, head_takes, IsHeadFault}
use Rattle.flp_report.specs.Reads.{ConsumesWithin}
use Rattle.flp_report.proofs.FaultLemmas.{first_of-two}
use Rattle.flp_report.proofs.KnownLemmas.{IfSome-map, IfBatch-map, IfSome-before, EndedShort-known}
use Rattle.flp_report.proofs.ReadsLemmas.{ConsumesWithin-all, ConsumesWithin-front}
use Rattle.flp_report.proofs.HeadLemmas.{head_fault-text, head_takes-least, head_takes-text, text-cut}
use Rattle.flp_report.proofs.head.read_head.Goals as goal

pub returns-in-Err-clause-fault : goal.returns-in-Err-clause-fault
returns-in-Err-clause-fault g c =
    let letters = c.args.letters.now in
    let base = length c.args.head.now in
    IfBatch-map _ (λ b. IfSome (g.S.Source.left c.args.source.now) (λ bytes. head_fault letters base c.args.party bytes ≡ Some b)) c.in-Err.fault
    (λ b known. IfSome-map _ (λ bytes. head_fault letters base c.args.party bytes ≡ Some b) (g.S.Source.left c.args.source.now)
    (λ bytes is. first_of-two _ _ _ b is) known) c.in-Err.ensures.fault

pub returns-in-Err-clause-kind : goal.returns-in-Err-clause-kind
returns-in-Err-clause-kind g c = IfBatch-map _ (IsHeadFault (length c.args.head.now) c.args.party) c.in-Err.fault (λ b kind. inl kind) c.in-Err.ensures.kind

pub returns-in-Err-clause-source : goal.returns-in-Err-clause-source
returns-in-Err-clause-source g c =
    let letters = c.args.letters.now in
    let base = length c.args.head.now in
    ReadsFrom-as c.in-Err.ensures.source (λ few. ConsumesWithin-all (head_takes letters base c.args.party) _ _ base few (head_takes-least letters base c.args.party)) (λ is. let same : c.in-Err.fault ≡ read.Failed = cc in ap Err same) (λ ok. ok)

pub returns-in-Ok-read_growing-clause-bytes : goal.returns-in-Ok-read_growing-clause-bytes
returns-in-Ok-read_growing-clause-bytes g c = Consumes-trans _ _ _ c.read_start.new.head c.in-Ok-read_growing.text.items c.in-Ok.ensures.bytes c.in-Ok-read_growing.ensures.bytes

pub returns-in-Ok-read_growing-clause-source : goal.returns-in-Ok-read_growing-clause-source
returns-in-Ok-read_growing-clause-source g c =
    let letters = c.args.letters.now in
    let base = length c.args.head.now in
    let head = c.read_start.new.head in
    let n = c.number_at-length.result in
    ReadsFrom-after (ConsumesWithin (head_takes letters base c.args.party)) c.in-Ok.ensures.source c.in-Ok-read_growing.ensures.source
    (λ first few. ConsumesWithin-front (head_takes letters base c.args.party) _ _ _ head n c.in-Ok.ensures.bytes few (λ rest.
    let size = head_takes-text letters base c.args.party head rest c.requires.letters c.requires.size.0 c.read_start.auto.head c.in-Ok.ensures.none in
    omega (arith, size, c.read_start.auto.head, c.number_at-length.ensures)))

pub returns-in-Err-read_growing-clause-source : goal.returns-in-Err-read_growing-clause-source
returns-in-Err-read_growing-clause-source g c =
    let letters = c.args.letters.now in
    let base = length c.args.head.now in
    let head = c.read_start.new.head in
    let n = c.number_at-length.result in
    ReadsFrom-after (ConsumesWithin (head_takes letters base c.args.party)) c.in-Ok.ensures.source c.in-Err-read_growing.ensures.source
    (λ first few. ConsumesWithin-front (head_takes letters base c.args.party) _ _ _ head n c.in-Ok.ensures.bytes few (λ rest.
    let size = head_takes-text letters base c.args.party head rest c.requires.letters c.requires.size.0 c.read_start.auto.head c.in-Ok.ensures.none in
    omega (arith, size, c.read_start.auto.head, c.number_at-length.ensures)))

pub returns-in-Err-read_growing-clause-kind : goal.returns-in-Err-read_growing-clause-kind
returns-in-Err-read_growing-clause-kind g c =
    let base = length c.args.head.now in
    let n = c.number_at-length.result in
    let small : n ≤ 65536 = omega (arith, c.number_at-length.ensures, c.in-Ok.ensures.numbers.text) in
    let end = ap (λ (m : ℕ). base + m) c.from.ensures in
    IfBatch-map _ (IsHeadFault base c.args.party) c.in-Err-read_growing.fault (λ b short. inr (text-cut _ base n _ b end small short)) c.in-Err-read_growing.ensures.fault

pub returns-in-Err-read_growing-clause-fault : goal.returns-in-Err-read_growing-clause-fault
returns-in-Err-read_growing-clause-fault g c =
    let letters = c.args.letters.now in
    let base = length c.args.head.now in
    let head = c.read_start.new.head in
    let ended = rw (c.from.ensures, c.number_at-length.ensures) at c.in-Err-read_growing.ensures.fault in
    IfBatch-map _ (λ b. IfSome (g.S.Source.left c.args.source.now) (λ bytes. head_fault letters base c.args.party bytes ≡ Some b)) c.in-Err-read_growing.fault
    (λ b short. IfSome-before (λ bytes. head_fault letters base c.args.party bytes ≡ Some b) (λ rest. head_fault letters base c.args.party (head ++ rest) ≡ Some b) _ _ head c.in-Ok.ensures.bytes
    (EndedShort-known _ _ _ _ b (λ rest. head_fault letters base c.args.party (head ++ rest) ≡ Some b) short
    (λ rest cut. head_fault-text letters base c.args.party head rest b c.requires.letters c.requires.size.0 c.read_start.auto.head c.in-Ok.ensures.none cut)) (λ rest is. is)) ended
