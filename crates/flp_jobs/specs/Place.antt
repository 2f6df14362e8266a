-- Which places are bad, and why. From a check up to the least bad place.
use Rattle.std.specs.Prelude.{ℕ, suc, List, [], ◌∷◌, Option, Some, None}
use Rattle.std.specs.Option.{option_map, option_or}
use Rattle.flp_syntax.specs.declared.syntax.Params.{Params}
use Rattle.flp_meaning.specs.Circuit.{failing_check}
use Rattle.flp_circuits.specs.declared.fault.MeasFault.{MeasFault}
use Rattle.flp_circuits.specs.declared.fault.MeasFault.TheVariants as meas
use Rattle.flp_circuits.specs.Encoding.{meas_fault}
use Rattle.flp_jobs.specs.declared.fault.PlaceFault.{PlaceFault}
use Rattle.flp_jobs.specs.declared.fault.PlaceFault.TheVariants.{Range, Weight, Check}
use Rattle.flp_jobs.specs.declared.rules.Joints.{Joints}
use Rattle.flp_jobs.specs.declared.rules.Joints.TheVariants.{Own, First}
use Rattle.flp_batch.specs.JobSetting.{JobSetting}
use Rattle.flp_jobs.specs.Encoding.{job_input, job_joint, job_encoding, job_proofs}

-- the least check of a job's encoding that is not 0 under the joint words that a job, it or another, has for this proof
abbrev pub check_fault : JobSetting → (under job : List ℕ) → (proof : ℕ) → Option PlaceFault
check_fault by under job proof =
    option_map (λ check. Check check proof) (failing_check by.circuit (job_encoding by job) (job_joint by.shape under proof))

-- that of the first of these proofs that has one
abbrev pub first_check : JobSetting → (under job : List ℕ) → (proofs : List ℕ) → Option PlaceFault
first_check by under job [] = None
first_check by under job (proof ∷ more) = option_or (check_fault by under job proof) (first_check by under job more)

-- why a measurement is refused; the words of an encoding are not
abbrev pub input_fault : Option Params → (input : List ℕ) → Option MeasFault
input_fault (Some params) input = meas_fault params input
input_fault None input = None

-- a refused measurement, or else what follows. No job has another count of numbers than its circuit takes
abbrev pub refused_or : Option MeasFault → Option PlaceFault → Option PlaceFault
refused_or None rest = rest
refused_or (Some (meas.Count count)) rest = rest
refused_or (Some (meas.Range number value)) rest = Some (Range number value)
refused_or (Some (meas.Weight weight)) rest = Some (Weight weight)

-- why the place of a job is bad: its measurement is refused, or else a check is not 0, for the least proof and then the least check
abbrev pub place_fault : JobSetting → (under job : List ℕ) → Option PlaceFault
place_fault by under job = refused_or (input_fault by.params (job_input by.shape job)) (first_check by under job (job_proofs by.shape))

-- whose joint words a job is judged under: its own, or those of the first job
abbrev pub judged_under : Joints → (first job : List ℕ) → List ℕ
judged_under Own first job = job
judged_under First first job = first

-- a bad place and its fault, or else what follows
abbrev pub place_or : ℕ → Option PlaceFault → Option (ℕ × PlaceFault) → Option (ℕ × PlaceFault)
place_or place None rest = rest
place_or place (Some fault) rest = Some (place, fault)

-- the least bad place of jobs that follow a first one, where these begin at this place, and its fault
abbrev pub bad_from : Joints → JobSetting → (first : List ℕ) → ℕ → (jobs : List (List ℕ)) → Option (ℕ × PlaceFault)
bad_from joints by first place [] = None
bad_from joints by first place (job ∷ more) =
    place_or place (place_fault by (judged_under joints first job) job) (bad_from joints by first (suc place) more)

-- the job of the first place, where there is one
abbrev pub first_job : (jobs : List (List ℕ)) → List ℕ
first_job [] = []
first_job (job ∷ more) = job

-- the least bad place of all jobs, and its fault
abbrev pub bad_place : Joints → JobSetting → (jobs : List (List ℕ)) → Option (ℕ × PlaceFault)
bad_place joints by jobs = bad_from joints by (first_job jobs) 0 jobs
