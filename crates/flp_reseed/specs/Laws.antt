-- What the printed seeds hide. From one proof up to a whole file.
use Rattle.std.specs.Prelude.{ℕ, ◌≡◌, ◌<◌, ⊤, List, [], ◌∷◌}
use Rattle.std.specs.List.{All}
use Rattle.flp_hide.specs.Laws.{IsOutside, Match, honest_verifier}
use Rattle.flp_report.specs.Job.{jobs_of}
use Rattle.flp_batch.specs.JobSetting.{JobSetting}
use Rattle.flp_jobs.specs.Encoding.{job_joint, job_query, job_seeds, job_encoding}
use Rattle.flp_jobs.specs.Rules.{IsGoodFile}
use Rattle.flp_reseed.specs.Text.{matched_seeds}
use Rattle.flp_reseed.specs.Reply.{hide_rules}

-- the seeds of a proof match those of the first job: both encodings have the same wire values, with no other seeds they have, and
-- reseeding goes back; and the honest proof of each encoding with its seeds has the same verifier
pub record HidesProof (by : JobSetting) (first job : List ℕ) (proof : ℕ) : Type 0 where
  pub matching :
      Match by.circuit (job_encoding by first) (job_encoding by job) (job_joint by.shape first proof) (job_query by.shape first proof)
      (job_seeds by.shape first proof) (matched_seeds by first job proof)
  pub verifiers :
      honest_verifier by.circuit (job_encoding by first) (job_joint by.shape first proof) (job_seeds by.shape first proof) (job_query by.shape first proof)
      ≡ honest_verifier by.circuit (job_encoding by job) (job_joint by.shape first proof) (matched_seeds by first job proof) (job_query by.shape first proof)

-- so do those of each proof whose query points lie in no domain, for which seeds are printed
abbrev pub HidesPlace : JobSetting → (first job : List ℕ) → Type 0
HidesPlace by first job =
    (proof : ℕ) → proof < by.shape.proofs → IsOutside by.circuit (job_query by.shape first proof) → HidesProof by first job proof

-- of each job but the first
abbrev pub HidesPlaces : JobSetting → (jobs : List (List ℕ)) → Type 0
HidesPlaces by [] = ⊤
HidesPlaces by (first ∷ others) = All (HidesPlace by first) others

-- in each file of which lines are printed
abbrev pub SeedsMatch : Type 0
SeedsMatch = (bytes : List ℕ) (setting : JobSetting) → IsGoodFile hide_rules bytes setting → HidesPlaces setting (jobs_of setting.shape bytes)
