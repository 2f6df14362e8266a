use Rattle.std.proofs.Common.{◌≡◌, ℕ, ◌+◌, ◌*◌, length, sym, ap, subst, ◌∙◌, arith}
use Rattle.std.specs.List.{concat}
use Rattle.std.specs.Io.KnownBytes.{Appends}
use Rattle.std.proofs.KnownBytes.{Appends-trans}
use Rattle.flp_io.specs.Writes.{HasRoom, Spends}
use Rattle.flp_io.proofs.WriteLemmas.{HasRoom-less, HasRoom-rest}
use Rattle.flp_report.specs.declared.header.Header.{Header}
use Rattle.flp_report.specs.Layout.{head_bytes}
use Rattle.flp_report.specs.Shape.{bytes_of}
use Rattle.flp_generator.specs.Batch.{trial_shape, trial_header, trial_records}
use Rattle.flp_generator.proofs.RoomLemmas.{surely, length-head}
use Rattle.flp_generator.proofs.batch.write_batch.Goals as goal

pub unreachable-requires : goal.unreachable-requires
unreachable-requires g c =
    let spare = g.K.Sink.spare c.args.output.now in
    let head : ℕ = 32 + length c.args.text in
    let long : length (head_bytes c.header_of.result) ≡ head = ap (λ (h : Header). length (head_bytes h)) c.header_of.ensures ∙ length-head c.args.text c.args.reports in
    let fits : HasRoom spare head = HasRoom-less spare _ head c.requires.room (omega arith) in
    surely spare (g.K.Sink.spare c.write_head.new.sink) c.write_head.result c.in-Err.field-0 _ c.write_head.ensures.room (subst (HasRoom spare) (sym long) fits) c.in-Err.is

pub write_records-requires-clause-room : goal.write_records-requires-clause-room
write_records-requires-clause-room g c =
    let spare = g.K.Sink.spare c.args.output.now in
    let spare' = g.K.Sink.spare c.write_head.new.sink in
    let head : ℕ = 32 + length c.args.text in
    let records : ℕ = c.args.reports * bytes_of (trial_shape c.args.loaded.now.plan.circuit) in
    let long : length (head_bytes c.header_of.result) ≡ head = ap (λ (h : Header). length (head_bytes h)) c.header_of.ensures ∙ length-head c.args.text c.args.reports in
    let fits : HasRoom spare head = HasRoom-less spare (head + records) head c.requires.room (omega arith) in
    let spent = (c.write_head.ensures.room (subst (HasRoom spare) (sym long) fits)).1 in
    HasRoom-rest spare spare' head records c.requires.room (subst (Spends spare spare') long spent)

pub returns : goal.returns
returns g c =
    let taken = g.K.Sink.taken c.args.output.now in
    let taken' = g.K.Sink.taken c.write_head.new.sink in
    let header = trial_header c.args.text c.args.reports in
    let loaded = c.args.loaded.now in
    let head : Appends taken taken' (head_bytes header) = subst (λ (h : Header). Appends taken taken' (head_bytes h)) c.header_of.ensures c.in-Ok.ensures.whole in
    Appends-trans taken taken' (g.K.Sink.taken c.write_records.new.output) (head_bytes header) (concat (trial_records loaded.params loaded.plan.circuit c.args.seed c.args.reports)) head c.write_records.ensures
