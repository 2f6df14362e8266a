-- The room for the seeds of one proof of a place, from what it holds up to two encodings.
use Rattle.std.specs.Prelude.{◌≡◌, vec_len}
use Rattle.flp_plan.specs.Sizes.{sizes_of}
use Rattle.flp_report.specs.declared.job.Job.{Job}
use Rattle.flp_report.specs.JobParts.{job_of}
use Rattle.flp_jobs.specs.declared.file.JobFile.{JobFile}
use Rattle.flp_jobs.specs.Encoding.{job_encoding}
use Rattle.flp_jobs.specs.Reading.{setting_of, IsWhole, IsJobOf}
use Rattle.flp_reseed.specs.declared.room.Room.{Room}

-- it has the room that the jobs of this file take
pub record IsRoomOf (file : JobFile) (room : Room) : Type 0 where
  pub hider : room.hider ≡ sizes_of file.loaded.plan
  pub input : vec_len room.input ≡ file.shape.input
  pub from : vec_len room.from ≡ file.shape.meas
  pub to : vec_len room.to ≡ file.shape.meas
  pub joint : vec_len room.joint ≡ file.shape.joint
  pub query : vec_len room.query ≡ file.shape.query
  pub seeds : vec_len room.seeds ≡ file.shape.prove
  pub matched : vec_len room.matched ≡ file.shape.prove

-- it has the encoding of the first job of the file
pub record HasFirst (file : JobFile) (first : Job) (room : Room) : Type 0 where
  pub whole : IsWhole file
  pub of_file : IsJobOf file first
  pub fits : IsRoomOf file room
  pub from : room.from.items ≡ job_encoding (setting_of file) (job_of first)

-- and that of another
pub record HasBoth (file : JobFile) (first job : Job) (room : Room) : Type 0 where
  pub has : HasFirst file first room
  pub to : room.to.items ≡ job_encoding (setting_of file) (job_of job)
