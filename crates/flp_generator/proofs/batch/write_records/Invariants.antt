use Rattle.std.proofs.Common.{◌-◌, ◌*◌}
use Rattle.std.specs.List.{concat}
use Rattle.std.specs.Io.KnownBytes.{Appends}
use Rattle.flp_io.specs.Writes.{HasRoom}
use Rattle.flp_report.specs.Shape.{bytes_of}
use Rattle.flp_generator.specs.Batch.{trial_shape, trial_records}
use Rattle.flp_generator.specs.Maker.{IsAt}
use Rattle.flp_generator.proofs.batch.write_records.Given as goal

-- the records of the places before were written, and there is room for the others
abbrev pub invariant-loop-place : goal.invariant-loop-place
invariant-loop-place g l = record {
  at : IsAt l.loaded l.seed l.place l.maker;
  bytes : Appends (g.K.Sink.taken l.fn.output) (g.K.Sink.taken l.output) (concat (trial_records l.loaded.params l.loaded.plan.circuit l.seed l.place));
  room : HasRoom (g.K.Sink.spare l.output) ((l.reports - l.place) * bytes_of (trial_shape l.loaded.plan.circuit));
  ready : g.K.Sink.ready l.output;
}
