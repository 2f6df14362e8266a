use Rattle.std.proofs.Common.{◌≡◌, ◌≤◌, ◌<◌, ◌∙◌, List, ℕ, length, map, take, ap, arith}
use Rattle.std.proofs.lemmas.List.{take_all}
use Rattle.flp_report.specs.Record.{nonce_in}
use Rattle.flp_report.specs.Segment.{records_in}
use Rattle.flp_report.proofs.SegmentLemmas.{IsCut-held}
use Rattle.flp_known.specs.Order.{with_nonces}
use Rattle.flp_known.specs.Known.{known_in}
use Rattle.flp_verify.specs.Marks.{marks_behind}
use Rattle.flp_verify.proofs.MarkLemmas.{marked-more, known-more}
use Rattle.flp_verify.proofs.marks.mark.Goals as goal

pub loop-index-preserved : goal.loop-index-preserved
loop-index-preserved c =
    let index = c.loop-index.index in
    let records = records_in c.args.segment.now in
    let first = known_in c.args.known.now in
    let below : index < length c.loop-index.marks = omega (arith, c.requires.places, c.loop-index.auto.marks) in (
      marked-more first (known_in c.loop-index.known) records c.loop-index.marks index _ c.nonce.result.now c.in_ok-marks.field-0
          c.record_at-record.ensures.numbered c.nonce.ensures below c.in_ok-marks.ensures.new c.loop-index.invariant.1 c.loop-index.invariant.0,
      known-more first (known_in c.loop-index.known) (known_in c.add.new.self) records index _ c.nonce.result.now
          c.record_at-record.ensures.numbered c.nonce.ensures c.in_ok-marks.ensures.added c.loop-index.invariant.1,
    )

pub returns-clause-marked : goal.returns-clause-marked
returns-clause-marked c =
    let index = c.loop-index.index in
    let records = records_in c.args.segment.now in
    let all : length records ≤ index = omega (arith, (IsCut-held c.args.segment.now).number, c.requires.used) in
    let last : c.args.count ≡ index = omega arith in
    ap (λ (n : ℕ). take n c.loop-index.marks) last
    ∙ (c.loop-index.invariant.0 ∙ ap (marks_behind (known_in c.args.known.now)) (take_all index records all))

pub returns-clause-known : goal.returns-clause-known
returns-clause-known c =
    let index = c.loop-index.index in
    let records = records_in c.args.segment.now in
    let all : length records ≤ index = omega (arith, (IsCut-held c.args.segment.now).number, c.requires.used) in
    c.loop-index.invariant.1
    ∙ ap (λ (l : List (List ℕ)). with_nonces (known_in c.args.known.now) (map nonce_in l)) (take_all index records all)
