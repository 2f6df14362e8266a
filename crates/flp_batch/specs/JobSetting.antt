-- What the records that are made of a job file are made by.
use Rattle.std.specs.Prelude.{ℕ, ◌≡◌, Bool, Option, Some, None, is_none}
use Rattle.flp_syntax.specs.declared.syntax.Params.{Params}
use Rattle.flp_syntax.specs.Tree.{Program}
use Rattle.flp_circuits.specs.Sizes.{input_len_of}
use Rattle.flp_plan.specs.Counted.{counted_lengths}
use Rattle.flp_report.specs.declared.header.JobHeader.{JobHeader}
use Rattle.flp_report.specs.declared.job_shape.JobShape.{JobShape}
use Rattle.flp_report.specs.declared.shape.Shape.{Shape}
use Rattle.flp_report.specs.Job.{record_shape, made_header}
use Rattle.flp_batch.specs.Setting.{IsShapeBehind}

-- the parameters, where the circuit is a standard one, the circuit, and the shape of the jobs
pub record JobSetting : Type 0 where
  pub params : Option Params
  pub circuit : Program
  pub shape : JobShape

-- the shape of the records that are made
abbrev pub made_shape : JobSetting → Shape
made_shape by = record_shape by.shape (counted_lengths by.circuit).outs

-- how many numbers the input of a job has: those of a measurement, or for a circuit of the text's own the words of an encoding
abbrev pub input_count : Option Params → Program → ℕ
input_count (Some params) circuit = input_len_of params
input_count None circuit = (counted_lengths circuit).meas

-- the shape of the jobs behind this header, whose text is loaded as this circuit: a record of it is one of the batch. Input
-- words are checked where they are those of an encoding, and the batch of the jobs is to be written or not
pub record IsJobShapeBehind (writes : Bool) (header : JobHeader) (params : Option Params) (circuit : Program) (shape : JobShape) : Type 0 where
  pub of_record : IsShapeBehind (made_header header) circuit (record_shape shape (counted_lengths circuit).outs)
  pub input : shape.input ≡ input_count params circuit
  pub prove : shape.prove ≡ (counted_lengths circuit).prove
  pub checked : shape.checked ≡ is_none params
  pub written : shape.written ≡ writes
