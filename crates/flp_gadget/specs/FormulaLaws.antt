-- The laws of a gadget for kinds, and what their values and formulas are made of.
use Rattle.std.specs.Prelude.{ℕ, ◌≡◌, ◌+◌, ◌-◌, ◌*◌, ◌≤◌, List, length, All}
use Rattle.flp_field.specs.Word.{IsWord, AreWords}
use Rattle.flp_gadget.specs.GadgetLaws.{GadgetLaw, IsWithinLimits}
use Rattle.flp_gadget.specs.KindTree.{KindTree, kind_arity, kind_degree, value_of, formula_of, IsKind}

-- each kind obeys the law of a gadget
abbrev pub KindsObeyLaw : Type 0
KindsObeyLaw = (tree : KindTree) → GadgetLaw (kind_arity tree) (kind_degree tree) (value_of tree) (formula_of tree)

-- and has an arity of 1 to 1,024 and a degree of 1 to 8
abbrev pub KindsAreWithinLimits : Type 0
KindsAreWithinLimits = (tree : KindTree) → IsKind tree → IsWithinLimits (kind_arity tree) (kind_degree tree)

-- at any numbers the value is a word
abbrev pub ValueIsWord : Type 0
ValueIsWord = (tree : KindTree) (xs : List ℕ) → IsWord (value_of tree xs)

-- at any polynomials the formula's coefficients are words
abbrev pub FormulaHasWords : Type 0
FormulaHasWords = (tree : KindTree) (ps : List (List ℕ)) → IsKind tree → AreWords (formula_of tree ps)

-- at polynomials with n coefficients each, and n at least 1, the formula has degree * (n - 1) + 1
abbrev pub FormulaHasSize : Type 0
FormulaHasSize =
    (tree : KindTree) (ps : List (List ℕ)) (n : ℕ) → IsKind tree → 1 ≤ n → length ps ≡ kind_arity tree
    → All (λ p. length p ≡ n) ps → length (formula_of tree ps) ≡ kind_degree tree * (n - 1) + 1
