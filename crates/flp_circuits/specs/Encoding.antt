-- Measurements: the vector that one stands for, its encoding as words, and which are refused.
use Rattle.std.specs.Prelude.{ℕ, suc, ◌+◌, ◌-◌, ◌^◌, ◌==◌, nat_lt, nat_le, if◌then◌else◌, List, [], ◌∷◌, ◌++◌, length, slice_index, replicate, Option, None, Some, sum, count_by}
use Rattle.std.specs.List.{flat_map}
use Rattle.std.specs.Option.{option_or}
use Rattle.flp_syntax.specs.declared.syntax.Params.{Params}
use Rattle.flp_syntax.specs.declared.syntax.Params.TheVariants.{Count, Sum, SumVec, Histogram, Multihot}
use Rattle.flp_circuits.specs.declared.fault.MeasFault.{MeasFault}
use Rattle.flp_circuits.specs.declared.fault.MeasFault.TheVariants as fault
use Rattle.flp_circuits.specs.Bits.{bit_length, headroom, bits_of}
use Rattle.flp_circuits.specs.Sizes.{input_len_of}

-- the number of a measurement that has one
abbrev pub the_number : List ℕ → ℕ
the_number input = slice_index input 0

-- 1 at this place, and 0 elsewhere
abbrev pub one_at : ℕ → ℕ → List ℕ
one_at length place = replicate place 0 ++ 1 ∷ replicate (length - suc place) 0

-- the vector that a measurement adds to the sum: its numbers, or 1 in its bucket
abbrev pub vector_of : Params → List ℕ → List ℕ
vector_of Count input = the_number input ∷ []
vector_of (Sum max) input = the_number input ∷ []
vector_of (SumVec length bits chunk) input = input
vector_of (Histogram length chunk) input = one_at length (the_number input)
vector_of (Multihot length weight chunk) input = input

-- the words of a measurement's encoding
abbrev pub encoding_of : Params → List ℕ → List ℕ
encoding_of Count input = the_number input ∷ []
encoding_of (Sum max) input = bits_of (bit_length max) (the_number input) ++ bits_of (bit_length max) (the_number input + headroom max)
encoding_of (SumVec length bits chunk) input = flat_map (bits_of bits) input
encoding_of (Histogram length chunk) input = one_at length (the_number input)
encoding_of (Multihot length weight chunk) input = input ++ bits_of (bit_length weight) (sum input + headroom weight)

-- each number of a measurement is below this
abbrev pub range_of : Params → ℕ
range_of Count = 2
range_of (Sum max) = suc max
range_of (SumVec length bits chunk) = 2 ^ bits
range_of (Histogram length chunk) = length
range_of (Multihot length weight chunk) = 2

-- the first number out of range, with its place; places from this one on
abbrev pub range_fault : ℕ → ℕ → List ℕ → Option MeasFault
range_fault range place [] = None
range_fault range place (n ∷ more) = if nat_lt n range then range_fault range (suc place) more else Some (fault.Range place n)

-- how many numbers are 1
abbrev pub weight_of : List ℕ → ℕ
weight_of input = count_by (λ n. n == 1) input

abbrev pub weight_fault : Params → List ℕ → Option MeasFault
weight_fault Count input = None
weight_fault (Sum max) input = None
weight_fault (SumVec length bits chunk) input = None
weight_fault (Histogram length chunk) input = None
weight_fault (Multihot length weight chunk) input = if nat_le (weight_of input) weight then None else Some (fault.Weight (weight_of input))

-- another count of numbers than the circuit takes; else the first number out of range; else too many ones
abbrev pub meas_fault : Params → List ℕ → Option MeasFault
meas_fault params input = if length input == input_len_of params then option_or (range_fault (range_of params) 0 input) (weight_fault params input) else Some (fault.Count (length input))
