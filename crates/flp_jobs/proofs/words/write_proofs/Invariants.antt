use Rattle.std.proofs.Common.{◌≡◌, ◌*◌, take}
use Rattle.std.specs.List.{range_with_len, flat_map}
use Rattle.flp_report.specs.JobParts.{job_of}
use Rattle.flp_jobs.specs.Record.{job_proof}
use Rattle.flp_jobs.specs.Reading.{setting_of}
use Rattle.flp_jobs.proofs.words.write_proofs.Given as goal

abbrev pub invariant-loop-proof : goal.invariant-loop-proof
invariant-loop-proof l = record {
  again : l.prover ≡ l.fn.prover;
  proofs : take (l.proof * l.file.shape.proof) l.proofs ≡ flat_map (job_proof (setting_of l.file) (job_of l.job)) (range_with_len 0 l.proof);
}
