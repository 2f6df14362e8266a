-- The laws of a gadget with its arity, its degree, its value at words and its formula at polynomials.
use Rattle.std.specs.Prelude.{ℕ, ◌≡◌, ◌*◌, ◌≤◌, List, map, length, All}
use Rattle.flp_poly.specs.Polynomial.{value_at, HasDegreeAtMost}

-- applied to polynomials and then evaluated, it is the gadget of their values
abbrev pub FormulaHasValue : ℕ → (List ℕ → ℕ) → (List (List ℕ) → List ℕ) → Type 0
FormulaHasValue arity value formula =
    (ps : List (List ℕ)) (t : ℕ) → length ps ≡ arity → value_at (formula ps) t ≡ value (map (λ p. value_at p t) ps)

-- at polynomials of degree at most d it gives one of degree at most degree * d
abbrev pub FormulaHasDegree : ℕ → ℕ → (List (List ℕ) → List ℕ) → Type 0
FormulaHasDegree arity degree formula =
    (ps : List (List ℕ)) (d : ℕ) → length ps ≡ arity → All (λ p. HasDegreeAtMost p d) ps
    → HasDegreeAtMost (formula ps) (degree * d)

pub record GadgetLaw (arity degree : ℕ) (value : List ℕ → ℕ) (formula : List (List ℕ) → List ℕ) : Type 0 where
  pub values : FormulaHasValue arity value formula
  pub degrees : FormulaHasDegree arity degree formula

-- the arity is 1 to 1,024 and the degree 1 to 8
pub record IsWithinLimits (arity degree : ℕ) : Type 0 where
  pub some_input : 1 ≤ arity
  pub few_inputs : arity ≤ 1024
  pub some_degree : 1 ≤ degree
  pub low_degree : degree ≤ 8
