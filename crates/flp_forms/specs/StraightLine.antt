-- The steps as contracts see them, and what the calls that append promise. From the record up.
use Rattle.std.specs.Prelude.{ℕ, ◌≡◌, ◌<◌, ◌^◌, List, ◌++◌, length, Some, slice_get}
use Rattle.flp_forms.specs.declared.step.Step.{Step}
use Rattle.flp_forms.specs.declared.step.Step.TheVariants.{Joint}
use Rattle.flp_forms.specs.declared.term.Scale.{Scale}
use Rattle.flp_forms.specs.PublicValues.{publics, public_at, StepFits}
use Rattle.flp_forms.specs.LinearForms.{scale_value, ScaleFits}

-- the number of joint words, and the steps
pub record StraightLine : Type 0 where
  pub joint : ℕ
  pub steps : List Step

-- the first steps are the joint words, each step reads earlier ones alone, and their numbers fit 32 bits
pub record IsStraightLine (joint : ℕ) (steps : List Step) : Type 0 where
  pub begins : (k : ℕ) → k < joint → slice_get steps k ≡ Some (Joint k)
  pub reads_earlier : (k : ℕ) (step : Step) → slice_get steps k ≡ Some step → StepFits joint k step
  pub few : length steps < 2 ^ 32

-- steps were appended at most
pub record Grows (old new : StraightLine) : Type 0 where
  pub joint : new.joint ≡ old.joint
  pub front : (more : List Step) × (new.steps ≡ old.steps ++ more)

-- the step is there, and under each list of joint words its value is this number
pub record StandsFor (line : StraightLine) (step : ℕ) (number : List ℕ → ℕ) : Type 0 where
  pub within : step < length line.steps
  pub value : (joint : List ℕ) → public_at line.steps step joint ≡ number joint

-- the coefficient reads a step that is there, if any, and under each list of joint words its value is this number
pub record ScalesBy (line : StraightLine) (scale : Scale) (number : List ℕ → ℕ) : Type 0 where
  pub fits : ScaleFits (length line.steps) scale
  pub value : (joint : List ℕ) → scale_value (publics line.steps joint) scale ≡ number joint
