-- What contracts see of a source over memory.
use Rattle.std.specs.Prelude.{ℕ, List}

-- the bytes still to come, the most that one call hands out, the numbers of the calls that fail,
-- the number of the next call, and the faults so far
pub record SourceState : Type 0 where
  pub left : List ℕ
  pub step : ℕ
  pub fails : List ℕ
  pub calls : ℕ
  pub faults : ℕ

-- how often it failed so far
abbrev pub read_faults_of : SourceState → ℕ
read_faults_of source = source.faults
