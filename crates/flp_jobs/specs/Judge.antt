-- The room for judging places.
use Rattle.std.specs.Prelude.{◌≡◌, vec_len}
use Rattle.flp_plan.specs.Sizes.{sizes_of}
use Rattle.flp_jobs.specs.declared.file.JobFile.{JobFile}
use Rattle.flp_jobs.specs.declared.judge.Judge.{Judge}

-- it has the room that judging the jobs of this file takes
pub record IsJudgeOf (file : JobFile) (judge : Judge) : Type 0 where
  pub checker : judge.checker ≡ sizes_of file.loaded.plan
  pub input : vec_len judge.input ≡ file.shape.input
  pub joint : vec_len judge.joint ≡ file.shape.joint
  pub x : vec_len judge.x ≡ file.shape.meas
