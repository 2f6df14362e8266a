-- The laws of what `trial` replies.
use Rattle.std.specs.Prelude.{ℕ, ◌≡◌, List}
use Rattle.flp_batch.specs.declared.fault.EngineFault.{EngineFault}
use Rattle.flp_trial.specs.Reply.{IsTrial, IsFaultOfTrial}

-- bytes have one text of a trial, or one fault
abbrev pub OneTrial : Type 0
OneTrial = (seed reports : ℕ) (bytes text other : List ℕ) → IsTrial seed reports bytes text → IsTrial seed reports bytes other → text ≡ other

abbrev pub OneFault : Type 0
OneFault = (reports : ℕ) (bytes : List ℕ) (fault other : EngineFault) → IsFaultOfTrial reports bytes fault → IsFaultOfTrial reports bytes other → fault ≡ other

-- and not both
abbrev pub NeverBoth : Type 0
NeverBoth = (seed reports : ℕ) (bytes text : List ℕ) (fault : EngineFault) → IsTrial seed reports bytes text → IsFaultOfTrial reports bytes fault → ⊥
