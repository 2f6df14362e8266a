-- What a place encodes: for a standard circuit a measurement that changes from place to place, for another 0 and 1 in turn.
use Rattle.std.specs.Prelude.{ℕ, suc, ◌+◌, ◌%◌, ◌^◌, nat_lt, if◌then◌else◌, List, [], ◌∷◌, map, Option, None, Some}
use Rattle.std.specs.List.{range_with_len}
use Rattle.flp_syntax.specs.declared.syntax.Params.{Params}
use Rattle.flp_syntax.specs.declared.syntax.Params.TheVariants.{Count, Sum, SumVec, Histogram, Multihot}
use Rattle.flp_circuits.specs.Encoding.{encoding_of}

-- so many numbers, of which number j is k + j modulo this
abbrev pub residues : (modulo count k : ℕ) → List ℕ
residues modulo count k = map (λ j. (k + j) % modulo) (range_with_len 0 count)

-- 1 where j + k modulo the length is below this, and 0 elsewhere
abbrev pub ones_below : (length below k : ℕ) → List ℕ
ones_below length below k = map (λ j. if nat_lt ((j + k) % length) below then 1 else 0) (range_with_len 0 length)

-- the measurement of number k
abbrev pub measurement : Params → (k : ℕ) → List ℕ
measurement Count k = k % 2 ∷ []
measurement (Sum max) k = k % suc max ∷ []
measurement (SumVec length bits chunk) k = residues (2 ^ bits) length k
measurement (Histogram length chunk) k = k % length ∷ []
measurement (Multihot length weight chunk) k = ones_below length (k % suc weight) k

-- the encoding of number k, which has this many words
abbrev pub trial_encoding : Option Params → (meas k : ℕ) → List ℕ
trial_encoding (Some params) meas k = encoding_of params (measurement params k)
trial_encoding None meas k = residues 2 meas k
