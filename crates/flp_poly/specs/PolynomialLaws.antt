-- The laws of polynomials. From values and degrees up to the count of roots, and what that says of two polynomials.
use Rattle.std.specs.Prelude.{ℕ, ◌≡◌, ◌≢◌, ◌+◌, ◌^◌, ◌<◌, ◌≤◌, List, length, slice_index, All, AllPairs, SomeIndex}
use Rattle.flp_field.specs.Word.{IsWord, AreWords, word_sum, word_product}
use Rattle.flp_poly.specs.Polynomial.{value_at, HasDegreeAtMost, poly_sum, poly_product, IsDivided, values_on}

abbrev pub SumHasValue : Type 0
SumHasValue = (p q : List ℕ) (t : ℕ) → value_at (poly_sum p q) t ≡ word_sum (value_at p t) (value_at q t)

abbrev pub ProductHasValue : Type 0
ProductHasValue = (p q : List ℕ) (t : ℕ) → value_at (poly_product p q) t ≡ word_product (value_at p t) (value_at q t)

abbrev pub SumHasDegree : Type 0
SumHasDegree =
    (p q : List ℕ) (d : ℕ) → HasDegreeAtMost p d → HasDegreeAtMost q d → HasDegreeAtMost (poly_sum p q) d

abbrev pub ProductHasDegree : Type 0
ProductHasDegree =
    (p q : List ℕ) (a b : ℕ) → HasDegreeAtMost p a → HasDegreeAtMost q b → HasDegreeAtMost (poly_product p q) (a + b)

-- the remainder of a division by x - root is the value at the root
abbrev pub RemainderIsValue : Type 0
RemainderIsValue =
    (poly quotient : List ℕ) (root remainder : ℕ) → IsWord root → IsWord remainder
    → IsDivided poly root quotient remainder → remainder ≡ value_at poly root

-- each polynomial with a coefficient can be divided by x - root, and in one way
abbrev pub QuotientExists : Type 0
QuotientExists =
    (poly : List ℕ) (root : ℕ) → AreWords poly → IsWord root → 0 < length poly
    → (quotient : List ℕ) × AreWords quotient × (length quotient + 1 ≡ length poly)
    × IsDivided poly root quotient (value_at poly root)

abbrev pub QuotientIsUnique : Type 0
QuotientIsUnique =
    (poly p q : List ℕ) (root r s : ℕ) → IsWord root → AreWords p → AreWords q → length p ≡ length q
    → IsDivided poly root p r → IsDivided poly root q s → p ≡ q

-- the value there is 0
abbrev pub IsRoot : List ℕ → ℕ → Type 0
IsRoot cs t = IsWord t × (value_at cs t ≡ 0)

-- Different roots of a polynomial that has some coefficient but 0 and degree at most d are at most d
abbrev pub RootCount : Type 0
RootCount =
    (cs : List ℕ) (d : ℕ) (roots : List ℕ) → AreWords cs → SomeIndex cs (λ i. slice_index cs i ≢ 0)
    → HasDegreeAtMost cs d → AllPairs (λ s t. s ≢ t) roots → All (λ t. IsRoot cs t) roots → length roots ≤ d

-- two polynomials of degree at most d that agree on more than d different points
pub record Agree (p q : List ℕ) (d : ℕ) (points : List ℕ) : Type 0 where
  pub left_words : AreWords p
  pub right_words : AreWords q
  pub left_degree : HasDegreeAtMost p d
  pub right_degree : HasDegreeAtMost q d
  pub many : d < length points
  pub words : AreWords points
  pub differ : AllPairs (λ s t. s ≢ t) points
  pub values : All (λ t. value_at p t ≡ value_at q t) points

-- these have the same coefficients, and so the same value everywhere
abbrev pub AgreementIsEquality : Type 0
AgreementIsEquality =
    (p q : List ℕ) (d : ℕ) (points : List ℕ) → Agree p q d points
    → ((i : ℕ) → slice_index p i ≡ slice_index q i) × ((t : ℕ) → value_at p t ≡ value_at q t)

-- as many coefficients as the domain has points are determined by the values there
abbrev pub ValuesDetermine : Type 0
ValuesDetermine =
    (log : ℕ) (p q : List ℕ) → log ≤ 32 → AreWords p → AreWords q → length p ≡ 2 ^ log → length q ≡ 2 ^ log
    → values_on (2 ^ log) p ≡ values_on (2 ^ log) q → p ≡ q
