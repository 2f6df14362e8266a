-- The law of the printed seeds.
use Rattle.std.proofs.Common.{ℕ, ◌<◌, List, [], ◌∷◌}
use Rattle.std.specs.List.{All}
use Rattle.std.proofs.lemmas.List.Elements.{All-head, All-tail, All-weaker}
use Rattle.flp_hide.specs.Laws.{IsOutside}
use Rattle.flp_hide.proofs.VerifierLemmas.{reseeded_match}
use Rattle.flp_load.specs.Laws.{LoadedIsBounded}
use Rattle.flp_report.specs.Job.{jobs_of}
use Rattle.flp_batch.specs.JobSetting.{JobSetting}
use Rattle.flp_jobs.specs.Encoding.{job_joint, job_query, job_seeds, job_encoding}
use Rattle.flp_jobs.specs.Place.{first_job}
use Rattle.flp_jobs.proofs.LawRecordLemmas.{IsSound, IsGood, valid-under, seeds-are}
use Rattle.flp_jobs.proofs.LawFileLemmas.{is_sound, jobs-good}
use Rattle.flp_reseed.specs.Reply.{hide_rules}
use Rattle.flp_reseed.specs.Laws.{HidesProof, HidesPlace, HidesPlaces, SeedsMatch}

module _ (by : JobSetting) (sound : IsSound by) (first : List ℕ) (good : IsGood by first first) where
  -- the seeds of a proof of a job that is good under the joint words of the first
  hides-proof : (job : List ℕ) (proof : ℕ) → IsGood by first job → proof < by.shape.proofs → IsOutside by.circuit (job_query by.shape first proof) → HidesProof by first job proof
  hides-proof job proof other below outside =
      let matching =
      reseeded_match by.circuit sound.bounded (job_encoding by first) (job_encoding by job) (job_joint by.shape first proof) (job_query by.shape first proof)
      (job_seeds by.shape first proof) outside (seeds-are by first first proof sound.setting good below)
      in
      record {
        matching = matching;
        verifiers = matching.verifiers (valid-under by first first proof sound.setting good below) (valid-under by first job proof sound.setting other below);
      }

-- those of all jobs but the first
hides-places : (by : JobSetting) → IsSound by → (jobs : List (List ℕ)) → All (λ job. IsGood by (first_job jobs) job) jobs → HidesPlaces by jobs
hides-places by sound [] good = tt
hides-places by sound (first ∷ others) good =
    All-weaker (λ job. IsGood by first job) (HidesPlace by first)
    (λ job other proof below outside. hides-proof by sound first (All-head (λ job. IsGood by first job) first others good) job proof other below outside)
    others (All-tail (λ job. IsGood by first job) first others good)

pub seeds_match : LoadedIsBounded → SeedsMatch
seeds_match bounded bytes by good =
    hides-places by (is_sound bounded hide_rules bytes by good) (jobs_of by.shape bytes) (jobs-good bounded hide_rules bytes by good)
