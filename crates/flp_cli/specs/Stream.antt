-- An input or an output over a run: what it tells, before and after.
use Rattle.std.specs.Prelude.{ℕ, List, Option}
use Rattle.std.specs.Io.KnownBytes.{Appends}
use Rattle.flp_io.specs.Faults.{Rose}

-- the bytes that an input has left or that an output has taken, and how often it failed so far
pub record Stream : Type 0 where
  pub old : Option (List ℕ)
  pub new : Option (List ℕ)
  pub faults : ℕ
  pub faults_now : ℕ

-- what a source or a sink tells over a run, by the bytes and the count that it tells at a time
abbrev pub over : {A : Type 0} → (A → Option (List ℕ)) → (A → ℕ) → A → A → Stream
over bytes faults before after =
    record { old = bytes before; new = bytes after; faults = faults before; faults_now = faults after }

-- it failed in the run
abbrev pub Failed : Stream → Type 0
Failed s = Rose s.faults s.faults_now

-- it did not fail in the run
abbrev pub IsQuiet : Stream → Type 0
IsQuiet s = Failed s → ⊥

-- where the error output did not fail, it took this line
abbrev pub Says : Stream → List ℕ → Type 0
Says errors line = IsQuiet errors → Appends errors.old errors.new line
