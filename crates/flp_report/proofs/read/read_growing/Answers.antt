use Rattle.std.proofs.Common.{◌≡◌, ◌≤◌, ◌+◌, length, Err, refl, sym, ap, subst, ◌∙◌, arith, length-append}
use Rattle.std.specs.Io.KnownBytes.{Consumes}
use Rattle.std.proofs.KnownBytes.{Consumes-trans}
use Rattle.flp_io.specs.Reads.{ConsumesAtMost}
use Rattle.flp_io.proofs.UsesLemmas.{Uses-after, Uses-as}
use Rattle.flp_io.proofs.ReadLemmas.{ReadsFrom-after, ReadsFrom-as}
use Rattle.flp_report.specs.declared.fault.ReadFault.TheVariants as read
use Rattle.flp_report.specs.Reads.{EndedShort}
use Rattle.flp_report.proofs.KnownLemmas.{IfBatch-map, EndedShort-before}
use Rattle.flp_report.proofs.ReadsLemmas.{ConsumesAtMost-after}
use Rattle.flp_report.proofs.read.read_growing.Goals as goal

pub returns-in-Err-clause-fault : goal.returns-in-Err-clause-fault
returns-in-Err-clause-fault g c =
    let held = c.loop-done.invariant in
    let fits : c.loop-done.done + c.min-size.result ≤ c.args.wanted = grind arith in
    IfBatch-map _ (λ b. EndedShort (g.S.Source.left c.args.source.now) c.args.before c.args.wanted c.args.need b) c.in-Err.fault
    (λ b short. EndedShort-before _ _ c.loop-done.bytes.items c.args.before c.loop-done.done c.min-size.result c.args.wanted c.args.need b held.source.bytes held.size fits short) c.in-Err.ensures.fault

pub returns-in-Err-clause-source : goal.returns-in-Err-clause-source
returns-in-Err-clause-source g c =
    let held = c.loop-done.invariant in
    let fits : length c.loop-done.bytes.items + c.min-size.result ≤ c.args.wanted = grind (arith, held.size) in
    ReadsFrom-after {takes' = ConsumesAtMost c.min-size.result} (ConsumesAtMost c.args.wanted) held.source
    (ReadsFrom-as c.in-Err.ensures.source (λ few. few) (λ is. let same : c.in-Err.fault ≡ read.Failed = cc in ap Err same) (λ ok. ok))
    (λ done some. ConsumesAtMost-after _ _ _ c.loop-done.bytes.items c.min-size.result c.args.wanted done some fits)

pub loop-done-preserved : goal.loop-done-preserved
loop-done-preserved g c =
    let held = c.loop-done.invariant in
    let (piece, grown, size, gone) = c.in-Ok.ensures.bytes in
    record {
      source = record {
        bytes = subst (Consumes _ _) (sym grown) (Consumes-trans _ _ _ _ piece held.source.bytes gone);
        uses = Uses-after held.source.uses (Uses-as c.in-Ok.ensures.source.uses (λ no. absurd no) (λ on. refl));
      };
      size = ap length grown ∙ (length-append c.loop-done.bytes.items piece ∙ omega (arith, size, held.size));
      within = grind arith;
    }

pub returns-clause-source : goal.returns-clause-source
returns-clause-source g c =
    let held = c.loop-done.invariant in
    let few : length c.loop-done.bytes.items ≤ c.args.wanted = omega (arith, held.size, held.within) in
    ReadsFrom-as held.source (λ gone. record { bytes = c.loop-done.bytes.items; few = few; gone = gone }) (λ is. let no : ⊥ = cc in absurd no) (λ ok. tt)
