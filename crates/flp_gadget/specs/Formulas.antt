-- What the gadgets compute on words, and the same formulas on polynomials, which are lists of coefficients. From products up to sums over groups of inputs.
use Rattle.std.specs.Prelude.{ℕ, ◌%◌, List, [], ◌∷◌, map, get_or, slice_index, sum}
use Rattle.flp_field.specs.Word.{modulus, word_product}
use Rattle.flp_field.specs.Sums.{parts_of}
use Rattle.flp_poly.specs.Polynomial.{value_at, poly_sum, poly_product}

-- the product of two inputs
abbrev pub product_value : List ℕ → ℕ
product_value xs = word_product (slice_index xs 0) (slice_index xs 1)

-- and of two polynomials
abbrev pub product_formula : List (List ℕ) → List ℕ
product_formula ps = poly_product (get_or ps 0 []) (get_or ps 1 [])

-- the value of the polynomial cs at one input
abbrev pub poly_value : List ℕ → List ℕ → ℕ
poly_value cs xs = value_at cs (slice_index xs 0)

-- c + p * (c_1 + p * (c_2 + ..)), where c_1, c_2 and so on are the list
abbrev pub nested : ℕ → List ℕ → List ℕ → List ℕ
nested c [] p = c ∷ []
nested c (d ∷ cs) p = poly_sum (c ∷ []) (poly_product p (nested d cs p))

-- the polynomial cs at the polynomial p
abbrev pub composed : List ℕ → List ℕ → List ℕ
composed [] p = []
composed (c ∷ cs) p = nested c cs p

-- and at one polynomial
abbrev pub poly_formula : List ℕ → List (List ℕ) → List ℕ
poly_formula cs ps = composed cs (get_or ps 0 [])

-- the sum of a gadget's values at each group of words
abbrev pub sum_over_groups : (List ℕ → ℕ) → ℕ → ℕ → List ℕ → ℕ
sum_over_groups value size count xs = sum (map value (parts_of count size xs)) % modulus

-- the sum of these polynomials
abbrev pub poly_total : List (List ℕ) → List ℕ
poly_total [] = []
poly_total (p ∷ ps) = poly_sum p (poly_total ps)

-- the sum of what a gadget's formula gives at each group of polynomials
abbrev pub total_over_groups : (List (List ℕ) → List ℕ) → ℕ → ℕ → List (List ℕ) → List ℕ
total_over_groups formula size count ps = poly_total (map formula (parts_of count size ps))
