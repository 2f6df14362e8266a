-- A polynomial is the list of its coefficients, lowest first; those past the end are 0. From the value up to division.
use Rattle.std.specs.Prelude.{ℕ, ◌≡◌, ◌+◌, ◌-◌, ◌*◌, ◌%◌, ◌^◌, ◌<◌, max, List, [], ◌∷◌, length, map, sum, slice_index}
use Rattle.std.specs.List.{range_with_len}
use Rattle.flp_field.specs.Word.{modulus, word_sum, word_negation}
use Rattle.flp_field.specs.Domain.{domain}

-- c_i * t^i and so on to the end, where c_i is the first coefficient of the list
abbrev pub sum_of_terms : ℕ → List ℕ → ℕ → ℕ
sum_of_terms i [] t = 0
sum_of_terms i (c ∷ cs) t = c * t ^ i + sum_of_terms (i + 1) cs t

-- the value at t: the sum of c_i * t^i
abbrev pub value_at : List ℕ → ℕ → ℕ
value_at cs t = sum_of_terms 0 cs t % modulus

-- each coefficient above d is 0
abbrev pub HasDegreeAtMost : List ℕ → ℕ → Type 0
HasDegreeAtMost cs d = (i : ℕ) → d < i → slice_index cs i ≡ 0

-- the sum, as long as the longer polynomial
abbrev pub poly_sum : List ℕ → List ℕ → List ℕ
poly_sum p q =
    map (λ k. word_sum (slice_index p k) (slice_index q k)) (range_with_len 0 (max (length p) (length q)))

-- coefficient k of the product: the sum of p_i * q_(k - i) for i from 0 to k
abbrev pub product_coefficient : List ℕ → List ℕ → ℕ → ℕ
product_coefficient p q k =
    sum (map (λ i. slice_index p i * slice_index q (k - i)) (range_with_len 0 (k + 1))) % modulus

-- the product
abbrev pub poly_product : List ℕ → List ℕ → List ℕ
poly_product p q = map (λ k. product_coefficient p q k) (range_with_len 0 (length p + length q - 1))

-- the polynomial x - root
abbrev pub minus_root : ℕ → List ℕ
minus_root root = word_negation root ∷ 1 ∷ []

-- the polynomial is (x - root) times the quotient, plus the remainder
abbrev pub IsDivided : List ℕ → ℕ → List ℕ → ℕ → Type 0
IsDivided poly root quotient remainder =
    poly ≡ poly_sum (poly_product (minus_root root) quotient) (remainder ∷ [])

-- the values on the domain of this size, in its order
abbrev pub values_on : ℕ → List ℕ → List ℕ
values_on size cs = map (λ t. value_at cs t) (domain size)
