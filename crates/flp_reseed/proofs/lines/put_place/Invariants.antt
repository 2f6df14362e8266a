use Rattle.flp_report.specs.JobParts.{job_of}
use Rattle.flp_jobs.specs.Reading.{setting_of}
use Rattle.flp_known.proofs.PutsLemmas.{PutsUpTo}
use Rattle.flp_reseed.specs.Room.{HasBoth}
use Rattle.flp_reseed.specs.Text.{seeds_line, place_lines}
use Rattle.flp_reseed.proofs.LineLemmas.{numbers-left}
use Rattle.flp_reseed.proofs.lines.put_place.Given as goal

abbrev pub invariant-loop-proof : goal.invariant-loop-proof
invariant-loop-proof g l = record {
  puts : PutsUpTo g.K.Sink.taken g.K.Sink.faults g.K.Sink.ready l.initial.sink l.sink l.initial.block l.block
      (place_lines (setting_of l.file) (job_of l.first) (job_of l.job)) (numbers-left (seeds_line (setting_of l.file) (job_of l.first) (job_of l.job)) l.proof l.file.shape.proofs);
  both : HasBoth l.file l.first l.job l.room;
}
