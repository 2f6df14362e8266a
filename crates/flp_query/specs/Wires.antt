-- The wires of a gadget at its point, as sums of products that grow call by call. From one call up to all of them.
use Rattle.std.specs.Prelude.{ℕ, ◌≡◌, ◌+◌, ◌*◌, ◌<◌, ◌≤◌, List, ◌∷◌, length, slice_index}
use Rattle.flp_field.specs.Sums.{sum_of_products}
use Rattle.flp_syntax.specs.Tree.{Program}
use Rattle.flp_meaning.specs.Meaning.{Call, Reading}
use Rattle.flp_meaning.specs.Gadgets.{calls_to}
use Rattle.flp_meaning.specs.Wires.{inputs_at}
use Rattle.flp_plan.specs.View.{HasInputs}

-- what a product of two words is below, 2^128
abbrev pub product_bound : ℕ
product_bound = 340282366920938463463374607431768211456

-- each of the first sums grew by the word of a row in its place, times a weight
pub record HasRow (count weight : ℕ) (row old new : List ℕ) : Type 0 where
  pub sums : (j : ℕ) → j < count → slice_index new j ≡ slice_index old j + weight * slice_index row j
  pub below : (j : ℕ) → j < count → slice_index new j ≤ slice_index old j + product_bound

-- each sum grew by the input of a call in its place, times a weight
abbrev pub HasGrown : Program → Reading → (number weight : ℕ) → (old new : List ℕ) → Type 0
HasGrown circuit reading number weight old new =
    (inputs : List ℕ) × HasInputs circuit reading number inputs
    × ((j : ℕ) → j < length new → slice_index new j ≡ slice_index old j + weight * slice_index inputs j)

-- each sum is that of what a wire runs through, its seed and then its inputs of these calls, times the weights
abbrev pub AreSums : List Call → (seeds weights : List ℕ) → (gadget : ℕ) → (sums : List ℕ) → Type 0
AreSums calls seeds weights gadget sums =
    (j : ℕ) → j < length sums
    → slice_index sums j ≡ sum_of_products weights (slice_index seeds j ∷ inputs_at j (calls_to gadget calls))

-- each sum is one of at most so many products of words, by its size: a product is below 2^128
abbrev pub AreOfAtMost : ℕ → List ℕ → Type 0
AreOfAtMost products sums =
    (j : ℕ) → j < length sums → slice_index sums j ≤ products * product_bound
