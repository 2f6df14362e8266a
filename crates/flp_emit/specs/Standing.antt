-- Public values as they are made, and what they stand for. From one step up. What is said of a value is said of all straight lines that go on from
-- here, since later steps change none.
use Rattle.std.specs.Prelude.{ℕ, ◌≡◌, ◌<◌, List, [], length, slice_index, Option, None, Some, IfSome}
use Rattle.flp_meaning.specs.Meaning.{Reading, Run}
use Rattle.flp_forms.specs.PublicValues.{publics, public_at}
use Rattle.flp_forms.specs.StraightLine.{StraightLine, Grows}

-- the step is there; under every reading its value is that of the run, which makes no call
pub record Stands (line : StraightLine) (step : ℕ) (run : Reading → Run ℕ) : Type 0 where
  pub within : step < length line.steps
  pub value : (later : StraightLine) → Grows line later → (reading : Reading) (made : ℕ)
      → public_at later.steps step reading.joint ≡ (run reading made).value
  pub silent : (reading : Reading) (made : ℕ) → (run reading made).calls ≡ []

-- steps were appended at most, and the step stands for the run
pub record Makes (old new : StraightLine) (step : ℕ) (run : Reading → Run ℕ) : Type 0 where
  pub grows : Grows old new
  pub stands : Stands new step run

-- the step is there, and its value is this number made of the values of steps
pub record MakesValue (old new : StraightLine) (step : ℕ) (number : List ℕ → ℕ) : Type 0 where
  pub grows : Grows old new
  pub within : step < length new.steps
  pub value : (later : StraightLine) → Grows new later → (joint : List ℕ)
      → public_at later.steps step joint ≡ number (publics later.steps joint)

-- ---- a sum or a product of some parts so far, of which there may be none

abbrev pub so_far : (none : ℕ) → Option ℕ → List ℕ → ℕ
so_far none None values = none
so_far none (Some step) values = slice_index values step

-- the parts so far are there, and together with the rest of a run have the value of the whole
pub record Remains (line : StraightLine) (none : ℕ) (join : ℕ → ℕ → ℕ) (part : Option ℕ) (rest whole : Reading → Run ℕ) : Type 0 where
  pub within : IfSome part (λ step. step < length line.steps)
  pub value : (later : StraightLine) → Grows line later → (reading : Reading) (made : ℕ)
      → (whole reading made).value ≡ join (so_far none part (publics later.steps reading.joint)) (rest reading made).value
  pub silent : (reading : Reading) (made : ℕ) → (rest reading made).calls ≡ [] → (whole reading made).calls ≡ []
