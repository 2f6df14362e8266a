-- The standard circuit that a batch may be of.
use Rattle.std.specs.Prelude.{ℕ, ◌≡◌}
use Rattle.flp_syntax.specs.declared.syntax.Params.{Params}
use Rattle.flp_circuits.specs.Sizes.{Fits, meas_len_of}

-- the parameters fit, and give its encodings this many words
pub record IsStandard (meas : ℕ) (params : Params) : Type 0 where
  pub fits : Fits params
  pub words : meas_len_of params ≡ meas
