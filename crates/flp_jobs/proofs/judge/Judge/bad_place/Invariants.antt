use Rattle.std.proofs.Common.{◌≡◌}
use Rattle.flp_report.specs.JobParts.{jobs_in}
use Rattle.flp_jobs.specs.Judge.{IsJudgeOf}
use Rattle.flp_jobs.specs.Place.{bad_place}
use Rattle.flp_jobs.specs.Reading.{setting_of}
use Rattle.flp_jobs.proofs.PlaceLemmas.{bad_behind}
use Rattle.flp_jobs.proofs.judge.Judge.bad_place.Given as goal

abbrev pub invariant-loop-number : goal.invariant-loop-number
invariant-loop-number l = record {
  made : IsJudgeOf l.file l.self;
  goes_on : bad_place l.joints (setting_of l.file) (jobs_in l.file.jobs) ≡ bad_behind l.joints (setting_of l.file) (jobs_in l.file.jobs) l.number;
}
