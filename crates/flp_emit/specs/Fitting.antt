-- Circuits that have code: nothing is out of range, every form is linear, and the numbers of the circuit are numbers of 32 bits.
use Rattle.std.specs.Prelude.{◌^◌, ◌<◌, length}
use Rattle.flp_syntax.specs.Tree.{Program}
use Rattle.flp_syntax.specs.Fits.{BodyFits}
use Rattle.flp_syntax.specs.Linear.{IsLinear}

pub record ProgramFits (body : Program) : Type 0 where
  pub meas : body.meas < 2 ^ 32
  pub joint : body.joint < 2 ^ 32
  pub gadgets : length body.gadgets < 2 ^ 32
  pub fits : BodyFits body
  pub linear : IsLinear body
