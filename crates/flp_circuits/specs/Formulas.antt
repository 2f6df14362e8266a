-- The checks of the standard circuits as plain sums over the words of an encoding. Sums are of whole numbers, and each check is taken modulo p.
use Rattle.std.specs.Prelude.{ℕ, ◌+◌, ◌-◌, ◌*◌, ◌%◌, ◌^◌, List, [], ◌∷◌, ◌++◌, map, slice_index}
use Rattle.std.specs.List.{sum_by}
use Rattle.flp_field.specs.Word.{modulus}
use Rattle.flp_syntax.specs.declared.syntax.Params.{Params}
use Rattle.flp_syntax.specs.declared.syntax.Params.TheVariants.{Count, Sum, SumVec, Histogram, Multihot}
use Rattle.flp_syntax.specs.Scope.{numbers_from}
use Rattle.flp_circuits.specs.Bits.{bit_length, headroom}
use Rattle.flp_circuits.specs.Sizes.{meas_len_of, quotient_up}

-- the word with this number; past the end it is 0
abbrev pub word : List ℕ → ℕ → ℕ
word x i = slice_index x i

-- a - b, modulo p
abbrev pub minus : ℕ → ℕ → ℕ
minus a b = a + (modulus - 1) * b

-- f at 0, added to f at 1, and so on, for so many numbers
abbrev pub sum_below : ℕ → (ℕ → ℕ) → ℕ
sum_below count f = sum_by f (numbers_from 0 count)

-- m * m - m, which is 0 where the word is a bit
abbrev pub bit_check : List ℕ → ℕ → ℕ
bit_check x i = minus (word x i * word x i) (word x i) % modulus

-- the number whose bits, lowest first, are so many words from this one on
abbrev pub number_at : List ℕ → (start count : ℕ) → ℕ
number_at x start count = sum_below count (λ i. 2 ^ i * word x (start + i))

-- over the words m by chunks: each m * (m - 1) times a power of the joint word of its chunk
abbrev pub range_sum : (x joint : List ℕ) → (calls chunk : ℕ) → ℕ
range_sum x joint calls chunk =
    sum_below calls (λ c. sum_below chunk (λ j. word joint c ^ (j + 1) * (word x (c * chunk + j) * minus (word x (c * chunk + j)) 1)))

abbrev pub range_formula : Params → (chunk : ℕ) → (x joint : List ℕ) → ℕ
range_formula params chunk x joint = range_sum x joint (quotient_up (meas_len_of params) chunk) chunk % modulus

-- the checks of a circuit under joint words
abbrev pub formula_of : Params → (x joint : List ℕ) → List ℕ
formula_of Count x joint = bit_check x 0 ∷ []
formula_of (Sum max) x joint =
    map (bit_check x) (numbers_from 0 (2 * bit_length max))
    ++ minus (headroom max + number_at x 0 (bit_length max)) (number_at x (bit_length max) (bit_length max)) % modulus ∷ []
formula_of (SumVec length bits chunk) x joint = range_formula (SumVec length bits chunk) chunk x joint ∷ []
formula_of (Histogram length chunk) x joint =
    range_formula (Histogram length chunk) chunk x joint
    ∷ minus (sum_below length (word x)) 1 % modulus ∷ []
formula_of (Multihot length weight chunk) x joint =
    range_formula (Multihot length weight chunk) chunk x joint
    ∷ minus (headroom weight + sum_below length (word x)) (number_at x length (bit_length weight)) % modulus ∷ []
