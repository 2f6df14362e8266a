use Rattle.std.proofs.Common.{◌≡◌}
use Rattle.flp_report.specs.JobParts.{job_of}
use Rattle.flp_jobs.specs.Encoding.{job_proofs}
use Rattle.flp_jobs.specs.Place.{first_check}
use Rattle.flp_jobs.specs.Reading.{setting_of}
use Rattle.flp_jobs.proofs.PlaceLemmas.{check_from}
use Rattle.flp_jobs.proofs.judge.first_check.Given as goal

abbrev pub invariant-loop-proof : goal.invariant-loop-proof
invariant-loop-proof l = record {
  again : l.checker ≡ l.fn.checker;
  goes_on : first_check (setting_of l.file) (job_of l.under) (job_of l.job) (job_proofs l.file.shape)
      ≡ check_from (setting_of l.file) (job_of l.under) (job_of l.job) l.proof l.file.shape.proofs;
}
