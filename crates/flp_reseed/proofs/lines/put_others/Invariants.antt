use Rattle.std.proofs.Common.{drop}
use Rattle.std.specs.List.{flat_map}
use Rattle.flp_report.specs.JobParts.{jobs_in, job_of}
use Rattle.flp_jobs.specs.Reading.{setting_of}
use Rattle.flp_known.proofs.PutsLemmas.{PutsUpTo}
use Rattle.flp_reseed.specs.Room.{HasFirst}
use Rattle.flp_reseed.specs.Text.{place_lines, hidden_lines}
use Rattle.flp_reseed.proofs.lines.put_others.Given as goal

abbrev pub invariant-loop-number : goal.invariant-loop-number
invariant-loop-number g l = record {
  puts : PutsUpTo g.K.Sink.taken g.K.Sink.faults g.K.Sink.ready l.initial.sink l.sink l.initial.block l.block
      (hidden_lines (setting_of l.file) (jobs_in l.file.jobs)) (flat_map (place_lines (setting_of l.file) (job_of l.first)) (drop l.number (jobs_in l.file.jobs)));
  has : HasFirst l.file l.first l.room;
}
