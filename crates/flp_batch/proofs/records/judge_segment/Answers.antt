use Rattle.std.proofs.Common.{◌≡◌, ◌∙◌, ◌<◌, ap, refl, arith, length}
use Rattle.flp_report.specs.Segment.{used_in, record_in, records_in}
use Rattle.flp_report.proofs.SegmentLemmas.{records_in-at, IsCut-held}
use Rattle.flp_batch.specs.Lines.{Wording}
use Rattle.flp_batch.proofs.PassLemmas.{segment-next, segment-flushed, front-within, front-flushed}
use Rattle.flp_batch.proofs.records.judge_segment.Goals as goal

pub loop-index-preserved : goal.loop-index-preserved
loop-index-preserved g c =
    let before = c.loop-index.invariant in
    let one = c.in_default.ensures in
    let room = c.args.room.now in
    let i = c.loop-index.index in
    let below : i < used_in room = omega (arith, c.requires.used) in
    record {
      judged = λ earlier follows.
          segment-next _ _ earlier _ _ (records_in room) i (record_in room i) _ _ _ _ _ _ (records_in-at room i below) (ap (λ (w : Wording). w.line) before.wording) (before.judged earlier follows) one.judged;
      shape = one.same.0 ∙ before.shape;
      wording = one.same.1 ∙ before.wording;
      counted = omega (arith, one.count, before.counted);
      writable = one.sink.again refl;
      later = omega (arith, before.later, one.sink.later);
    }

pub returns-in-Err-clause-front : goal.returns-in-Err-clause-front
returns-in-Err-clause-front g c = λ earlier follows.
    let before = c.loop-index.invariant in
    let room = c.args.room.now in
    let i = c.loop-index.index in
    let below : i < used_in room = omega (arith, c.requires.used) in
    front-within _ _ earlier _ (records_in room) i (record_in room i) _ _ _ _ _ (records_in-at room i below) (ap (λ (w : Wording). w.line) before.wording) (before.judged earlier follows) c.in-Err.ensures.front

pub returns-in-Ok-clause-judged : goal.returns-in-Ok-clause-judged
returns-in-Ok-clause-judged g c = λ earlier follows.
    let before = c.loop-index.invariant in
    let room = c.args.room.now in
    let i = c.loop-index.index in
    let all : length (records_in room) ≡ i = (IsCut-held room).number ∙ omega (arith, c.requires.used) in
    segment-flushed _ earlier _ (records_in room) i _ _ _ _ _ all (before.judged earlier follows) c.in-Ok.ensures.sink.whole

pub returns-in-Err-flush-clause-front : goal.returns-in-Err-flush-clause-front
returns-in-Err-flush-clause-front g c = λ earlier follows.
    let before = c.loop-index.invariant in
    let room = c.args.room.now in
    let i = c.loop-index.index in
    let all : length (records_in room) ≡ i = (IsCut-held room).number ∙ omega (arith, c.requires.used) in
    front-flushed _ earlier _ (records_in room) i _ _ _ _ _ all (before.judged earlier follows) c.in-Err-flush.ensures.sink.front
