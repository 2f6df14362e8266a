-- Gadgets as they are declared. From coefficients up to the text of a kind.
use Rattle.std.specs.Prelude.{ℕ, ◌≡◌, List, ◌++◌, map, Some}
use Rattle.flp_gadget.specs.declared.kind_step.KindStep.{KindStep}
use Rattle.flp_gadget.specs.KindTree.{KindTree}
use Rattle.flp_gadget.specs.KindText.{tree_of}
use Rattle.flp_syntax.specs.declared.syntax.Coef.{Coef}
use Rattle.flp_meaning.specs.Circuit.{coefficient}

-- the coefficients of a polynomial as words
abbrev pub coefficients : List Coef → List ℕ
coefficients coefs = map coefficient coefs

-- steps that make this tree were appended
abbrev pub StepsFollow : (old new : List KindStep) → KindTree → Type 0
StepsFollow old new tree = (more : List KindStep) × (new ≡ old ++ more) × (tree_of more ≡ Some tree)
