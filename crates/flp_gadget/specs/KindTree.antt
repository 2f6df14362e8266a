-- The kinds of gadget that a circuit declares, as trees. From the tree up to what it computes.
use Rattle.std.specs.Prelude.{ℕ, ◌≡◌, ◌-◌, ◌*◌, ◌≤◌, List, [], ◌∷◌, length, Option, Some, None, refl}
use Rattle.std.proofs.Common.{ap}
use Rattle.std.specs.Coded.{Coded, code_by, coded×, coded_list, coded_option, coded_ℕ}
use Rattle.flp_gadget.specs.Formulas.{product_value, product_formula, poly_value, poly_formula, sum_over_groups, total_over_groups}

-- a product, a polynomial by its coefficients, or the sum of a kind over so many groups of inputs
pub data KindTree : Type 0 where
  Mul : KindTree
  Poly : (coeffs : List ℕ) → KindTree
  Psum : (sub : KindTree) → (count : ℕ) → KindTree

-- the number of inputs
abbrev pub kind_arity : KindTree → ℕ
kind_arity Mul = 2
kind_arity (Poly coeffs) = 1
kind_arity (Psum sub count) = count * kind_arity sub

-- the degree, which counts each coefficient of a polynomial but one, also where the last of them is 0
abbrev pub kind_degree : KindTree → ℕ
kind_degree Mul = 2
kind_degree (Poly coeffs) = length coeffs - 1
kind_degree (Psum sub count) = kind_degree sub

-- the value at words
abbrev pub value_of : KindTree → List ℕ → ℕ
value_of Mul = product_value
value_of (Poly coeffs) = poly_value coeffs
value_of (Psum sub count) = sum_over_groups (value_of sub) (kind_arity sub) count

-- the same formula at polynomials
abbrev pub formula_of : KindTree → List (List ℕ) → List ℕ
formula_of Mul = product_formula
formula_of (Poly coeffs) = poly_formula coeffs
formula_of (Psum sub count) = total_over_groups (formula_of sub) (kind_arity sub) count

-- each polynomial has 2 to 9 coefficients, and each count is at least 1
abbrev pub HasParts : KindTree → Type 0
HasParts Mul = Unit {0}
HasParts (Poly coeffs) = (2 ≤ length coeffs) × (length coeffs ≤ 9)
HasParts (Psum sub count) = (1 ≤ count) × HasParts sub

-- what holds of every kind that a program has: it also has at most 1,024 inputs
pub record IsKind (tree : KindTree) : Type 0 where
  pub parts : HasParts tree
  pub few_inputs : kind_arity tree ≤ 1024

-- ---- a tree as its counts, the outermost first, and its leaf

-- a leaf under sums with these counts
abbrev pub tree_over : List ℕ → KindTree → KindTree
tree_over [] leaf = leaf
tree_over (count ∷ counts) leaf = Psum (tree_over counts leaf) count

abbrev pub counts_and_leaf : KindTree → List ℕ × Option (List ℕ)
counts_and_leaf Mul = ([], None)
counts_and_leaf (Poly coeffs) = ([], Some coeffs)
counts_and_leaf (Psum sub count) = (count ∷ (counts_and_leaf sub).0, (counts_and_leaf sub).1)

abbrev pub leaf_from : Option (List ℕ) → KindTree
leaf_from None = Mul
leaf_from (Some coeffs) = Poly coeffs

abbrev pub tree_from : List ℕ × Option (List ℕ) → KindTree
tree_from pair = tree_over pair.0 (leaf_from pair.1)

pub tree_back : (tree : KindTree) → tree_from (counts_and_leaf tree) ≡ tree
tree_back Mul = refl
tree_back (Poly coeffs) = refl
tree_back (Psum sub count) = ap (λ t. Psum t count) (tree_back sub)

-- a tree is stored as these
abbrev pub kind_tree_code : Coded KindTree
kind_tree_code =
    code_by (List ℕ × Option (List ℕ)) (coded× (coded_list coded_ℕ) (coded_option (coded_list coded_ℕ)))
    counts_and_leaf tree_from tree_back
