use Rattle.std.proofs.Common.{map, take}
use Rattle.flp_io.specs.Faults.{Uses}
use Rattle.std.specs.List.{concat}
use Rattle.std.specs.Io.KnownBytes.{Appends}
use Rattle.flp_report.specs.JobParts.{jobs_in}
use Rattle.flp_jobs.specs.Maker.{IsMadeFor}
use Rattle.flp_jobs.specs.Record.{record_made}
use Rattle.flp_jobs.specs.Reading.{setting_of}
use Rattle.flp_jobs.proofs.command.write_records.Given as goal

abbrev pub invariant-loop-number : goal.invariant-loop-number
invariant-loop-number g l = record {
  made : IsMadeFor l.file l.maker;
  bytes : Appends (g.K.Sink.taken l.fn.output) (g.K.Sink.taken l.output) (concat (map (record_made (setting_of l.file)) (take l.number (jobs_in l.file.jobs))));
  uses : Uses g.K.Sink.faults g.K.Sink.ready l.fn.output l.output ⊥ (Unit {0});
}
