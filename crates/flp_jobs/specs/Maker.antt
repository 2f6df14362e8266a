-- The room for making records, one after another.
use Rattle.std.specs.Prelude.{◌≡◌, ◌-◌, ◌*◌, vec_len}
use Rattle.flp_report.specs.Shape.{words_of}
use Rattle.flp_report.specs.Job.{record_shape, job_part_of}
use Rattle.flp_plan.specs.Sizes.{sizes_of}
use Rattle.flp_jobs.specs.declared.file.JobFile.{JobFile}
use Rattle.flp_jobs.specs.declared.maker.Maker.{Maker}

-- it has the room that the records of this file take
pub record IsMadeFor (file : JobFile) (maker : Maker) : Type 0 where
  pub prover : maker.prover ≡ sizes_of file.loaded.plan
  pub input : vec_len maker.input ≡ file.shape.input
  pub joint : vec_len maker.joint ≡ file.shape.joint
  pub seeds : vec_len maker.seeds ≡ file.shape.prove
  pub unshared : vec_len maker.unshared ≡ job_part_of file.shape
  pub given : vec_len maker.given ≡ (file.shape.shares - 1) * job_part_of file.shape
  pub shares : vec_len maker.shares ≡ file.shape.shares * job_part_of file.shape
  pub words : vec_len maker.words ≡ words_of (record_shape file.shape 0)
