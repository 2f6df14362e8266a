-- What holds of what records are made by.
use Rattle.std.specs.Prelude.{◌≡◌, ◌≤◌, ⊤, Option, Some, None}
use Rattle.flp_syntax.specs.declared.syntax.Params.{Params}
use Rattle.flp_syntax.specs.Tree.{Program}
use Rattle.flp_circuits.specs.Sizes.{Fits}
use Rattle.flp_circuits.specs.Standard.{standard_program}
use Rattle.flp_report.specs.declared.header.JobHeader.{JobHeader}
use Rattle.flp_batch.specs.JobSetting.{JobSetting, IsJobShapeBehind}

-- the parameters fit, and the circuit is theirs
abbrev pub IsCircuitOf : Option Params → Program → Type 0
IsCircuitOf (Some params) circuit = Fits params × (circuit ≡ standard_program params)
IsCircuitOf None circuit = ⊤

-- the setting of every job file, whose batch is written or not: the circuit is the parameters', and the shape is that of jobs behind some header
pub record IsSetting (by : JobSetting) : Type 0 where
  pub header : JobHeader
  pub circuit : IsCircuitOf by.params by.circuit
  pub some_shares : 2 ≤ by.shape.shares
  pub shape : IsJobShapeBehind by.shape.written header by.params by.circuit by.shape
