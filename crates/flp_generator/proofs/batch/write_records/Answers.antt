use Rattle.std.proofs.Common.{◌≡◌, ℕ, List, None, length, refl, sym, ap, ap₂, subst, ◌∙◌}
use Rattle.std.specs.List.{concat}
use Rattle.std.specs.Io.KnownBytes.{Appends}
use Rattle.std.proofs.KnownBytes.{Appends-trans}
use Rattle.flp_io.specs.Writes.{HasRoom, Spends}
use Rattle.flp_report.specs.Layout.{record_bytes}
use Rattle.flp_report.specs.Shape.{bytes_of}
use Rattle.flp_generator.specs.Batch.{trial_shape, trial_records}
use Rattle.flp_generator.specs.Place.{trial_record}
use Rattle.flp_generator.proofs.RecordLemmas.{length-record}
use Rattle.flp_generator.proofs.RoomLemmas.{surely, one-fits, others-fit, records-more}
use Rattle.flp_generator.proofs.batch.write_records.Goals as goal

pub unreachable-requires : goal.unreachable-requires
unreachable-requires g c =
    let params = c.args.loaded.now.params in
    let circuit = c.args.loaded.now.plan.circuit in
    let place : ℕ = c.loop-place.place in
    let size : ℕ = bytes_of (trial_shape circuit) in
    let made : record_bytes c.nonce_of.result None c.words.result.now ≡ trial_record params circuit c.args.seed place =
    ap₂ (λ (nonce words : List ℕ). record_bytes nonce None words) c.nonce_of.ensures (c.words.ensures ∙ c.make.ensures.words) in
    let long : length (record_bytes c.nonce_of.result None c.words.result.now) ≡ size = ap length made ∙ length-record params circuit c.requires.circuit c.is_bounded.ensures c.args.seed place in
    let fits : HasRoom (g.K.Sink.spare c.loop-place.output) size = one-fits (g.K.Sink.spare c.loop-place.output) c.args.reports place size c.loop-place-test.true c.loop-place.invariant.room in
    surely (g.K.Sink.spare c.loop-place.output) (g.K.Sink.spare c.write_record.new.sink) c.write_record.result c.in-Err.field-0 _ c.write_record.ensures.room
    (subst (HasRoom (g.K.Sink.spare c.loop-place.output)) (sym long) fits) c.in-Err.is

pub loop-place-preserved : goal.loop-place-preserved
loop-place-preserved g c =
    let params = c.args.loaded.now.params in
    let circuit = c.args.loaded.now.plan.circuit in
    let place : ℕ = c.loop-place.place in
    let size : ℕ = bytes_of (trial_shape circuit) in
    let spare = g.K.Sink.spare c.loop-place.output in
    let spare' = g.K.Sink.spare c.write_record.new.sink in
    let taken = g.K.Sink.taken c.loop-place.output in
    let taken' = g.K.Sink.taken c.write_record.new.sink in
    let made : record_bytes c.nonce_of.result None c.words.result.now ≡ trial_record params circuit c.args.seed place =
    ap₂ (λ (nonce words : List ℕ). record_bytes nonce None words) c.nonce_of.ensures (c.words.ensures ∙ c.make.ensures.words) in
    let long : length (record_bytes c.nonce_of.result None c.words.result.now) ≡ size = ap length made ∙ length-record params circuit c.requires.circuit c.is_bounded.ensures c.args.seed place in
    let fits : HasRoom spare size = one-fits spare c.args.reports place size c.loop-place-test.true c.loop-place.invariant.room in
    let spent = (c.write_record.ensures.room (subst (HasRoom spare) (sym long) fits)).1 in
    let written : Appends taken taken' (trial_record params circuit c.args.seed place) = subst (λ (l : List ℕ). Appends taken taken' l) made c.in-Ok.ensures.whole in
    record {
      at = c.make.ensures.next;
      bytes = subst (λ (l : List ℕ). Appends (g.K.Sink.taken c.args.output.now) taken' l) (sym (records-more params circuit c.args.seed place))
          (Appends-trans (g.K.Sink.taken c.args.output.now) taken taken' (concat (trial_records params circuit c.args.seed place)) (trial_record params circuit c.args.seed place)
          c.loop-place.invariant.bytes written);
      room = others-fit spare spare' c.args.reports place size c.loop-place-test.true c.loop-place.invariant.room (subst (Spends spare spare') long spent);
      ready = c.in-Ok.ensures.uses.again refl;
    }
