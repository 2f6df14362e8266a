-- A plan as contracts see it, and what its calls answer. From the view up.
use Rattle.std.specs.Prelude.{ℕ, ◌≡◌, List, Some, slice_get}
use Rattle.flp_syntax.specs.Tree.{Program}
use Rattle.flp_meaning.specs.Meaning.{Reading}
use Rattle.flp_meaning.specs.Circuit.{calls_of}
use Rattle.flp_meaning.specs.Gadgets.{call_gadget}
use Rattle.flp_forms.specs.declared.step.Step.{Step}
use Rattle.flp_forms.specs.PublicValues.{publics, residues}

-- the circuit from which a plan came, and the steps of its public values
pub record Compiled : Type 0 where
  pub circuit : Program
  pub steps : List Step

-- what a plan writes as its public values under these joint words
abbrev pub publics_of : Compiled → List ℕ → List ℕ
publics_of plan joint = residues (publics plan.steps joint)

-- under this reading, the call with this number among all calls, from 0, has these inputs
abbrev pub HasInputs : Program → Reading → ℕ → List ℕ → Type 0
HasInputs circuit reading number inputs =
    slice_get (calls_of circuit reading) number ≡ Some (record { gadget = call_gadget circuit number; inputs = inputs })
