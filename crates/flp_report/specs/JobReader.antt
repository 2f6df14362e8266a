-- What a reader of a job file has been given.
use Rattle.std.specs.Prelude.{◌+◌, ◌*◌, ◌≤◌}
use Rattle.flp_report.specs.declared.reader.Reader.{Reader}
use Rattle.flp_report.specs.declared.job_shape.JobShape.{JobShape}
use Rattle.flp_report.specs.Reader.{place_of, reports_left}
use Rattle.flp_report.specs.Job.{job_bytes_of}

abbrev pub JobReader : Type 0 → Type 0
JobReader S = Reader S JobShape

-- the shape that it was given
abbrev pub job_shape_given : {S : Type 0} → JobReader S → JobShape
job_shape_given r = r.parts

-- it has been given a shape, with which no size is above its limit
pub record IsJobShaped {S : Type 0} (r : JobReader S) : Type 0 where
  pub small_job : job_bytes_of (job_shape_given r) ≤ 16777216
  pub small_file : place_of r + reports_left r * job_bytes_of (job_shape_given r) ≤ 1073741824
