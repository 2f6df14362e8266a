-- Which words are the encoding of a measurement, from the words up.
use Rattle.std.specs.Prelude.{ℕ, ◌≡◌, ◌<◌, List, None, All}
use Rattle.flp_syntax.specs.declared.syntax.Params.{Params}
use Rattle.flp_circuits.specs.Encoding.{encoding_of, meas_fault}

-- each word is 0 or 1
abbrev pub AreBits : List ℕ → Type 0
AreBits x = All (λ n. n < 2) x

-- the words are the encoding of this measurement, which is not refused
pub record Encodes (params : Params) (input x : List ℕ) : Type 0 where
  pub taken : meas_fault params input ≡ None
  pub words : encoding_of params input ≡ x

-- the words are the encoding of some measurement
abbrev pub IsEncoding : Params → List ℕ → Type 0
IsEncoding params x = (input : List ℕ) × Encodes params input x
