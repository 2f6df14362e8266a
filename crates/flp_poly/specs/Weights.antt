-- The weights of the points of a domain at another point: with them the value there is a sum of products. From sums of
-- powers up to the law.
use Rattle.std.specs.Prelude.{ℕ, ◌≡◌, ◌%◌, List, length, map, sum}
use Rattle.std.specs.List.{range_with_len}
use Rattle.flp_field.specs.Word.{modulus, word_power, word_product}
use Rattle.flp_field.specs.Domain.{powers_of}
use Rattle.flp_field.specs.Sums.{dot_product}
use Rattle.flp_poly.specs.Polynomial.{value_at}
use Rattle.flp_poly.specs.Interpolation.{inverse_root, inverse_size, interpolated}

-- the value at z of the polynomial with so many coefficients, each of them 1
abbrev pub ones_at : ℕ → ℕ → ℕ
ones_at n z = sum (powers_of z n) % modulus

-- that value at t times a power of the root, scaled
abbrev pub ones_along : (size scale root t i : ℕ) → ℕ
ones_along size scale root t i = word_product scale (ones_at size (word_product t (word_power root i)))

-- The weight at t of the point with this index in the domain of this size: the value at t of the polynomial that is 1
-- at this point and 0 at the others. A proof takes what it is from the law
unfoldable pub weight : (size t i : ℕ) → ℕ
weight size t i = ones_along size (inverse_size size) (inverse_root size) t i

-- the weights of all points
abbrev pub weights : (size t : ℕ) → List ℕ
weights size t = map (weight size t) (range_with_len 0 size)

-- the value of the polynomial through values on a domain is their inner product with the weights
abbrev pub WeightsGiveValue : Type 0
WeightsGiveValue =
    (t : ℕ) (values : List ℕ) → value_at (interpolated values) t ≡ dot_product (weights (length values) t) values
