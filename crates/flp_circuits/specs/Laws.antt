-- What the standard circuits promise: their checks are the formulas, an encoding is valid, and its outs are the measurement's vector.
use Rattle.std.specs.Prelude.{ℕ, ◌≡◌, ◌≤◌, ◌+◌, ◌*◌, List, [], ◌∷◌, length, None, Ok}
use Rattle.flp_syntax.specs.declared.syntax.Params.{Params}
use Rattle.flp_syntax.specs.declared.syntax.Params.TheVariants.{Count, Sum, SumVec, Histogram, Multihot}
use Rattle.flp_syntax.specs.WellFormed.{ProgramIsWell}
use Rattle.flp_meaning.specs.Circuit.{checks_of, outs_of, direct, IsValid}
use Rattle.flp_meaning.specs.Terms.{wire_count, term_count}
use Rattle.flp_check.specs.Verdict.{Totals, verdict}
use Rattle.flp_circuits.specs.Bits.{bit_length, IsBitLength}
use Rattle.flp_circuits.specs.Sizes.{Fits, meas_len_of, quotient_up}
use Rattle.flp_circuits.specs.Encoding.{encoding_of, vector_of, meas_fault}
use Rattle.flp_circuits.specs.Standard.{standard_program}
use Rattle.flp_circuits.specs.Formulas.{formula_of}

abbrev pub BitLengthsAreLeast : Type 0
BitLengthsAreLeast = (n : ℕ) → IsBitLength n (bit_length n)

abbrev pub CircuitsAreWell : Type 0
CircuitsAreWell = (params : Params) → ProgramIsWell (standard_program params)

-- under any joint words and any words of an encoding
abbrev pub ChecksAreFormulas : Type 0
ChecksAreFormulas = (params : Params) (x joint : List ℕ) → checks_of (standard_program params) (direct (standard_program params) x joint) ≡ formula_of params x joint

-- under all joint words
abbrev pub EncodingsAreValid : Type 0
EncodingsAreValid =
    (params : Params) (input joint : List ℕ) → meas_fault params input ≡ None
    → IsValid (standard_program params) (encoding_of params input) joint

-- an encoding has as many words as the circuit reads
abbrev pub EncodingsHaveLength : Type 0
EncodingsHaveLength = (params : Params) (input : List ℕ) → meas_fault params input ≡ None → length (encoding_of params input) ≡ meas_len_of params

abbrev pub OutsAreVectors : Type 0
OutsAreVectors =
    (params : Params) (input : List ℕ) → Fits params → meas_fault params input ≡ None
    → outs_of (standard_program params) (encoding_of params input) ≡ vector_of params input

-- the calls of the gadget, the checks and the outs of the circuit
abbrev pub circuit_totals : Params → Totals
circuit_totals Count = record { calls = 1 ∷ []; checks = 1; outs = 1 }
circuit_totals (Sum max) = record { calls = 2 * bit_length max ∷ []; checks = 2 * bit_length max + 1; outs = 1 }
circuit_totals (SumVec length bits chunk) = record { calls = quotient_up (meas_len_of (SumVec length bits chunk)) chunk ∷ []; checks = 1; outs = length }
circuit_totals (Histogram length chunk) = record { calls = quotient_up (meas_len_of (Histogram length chunk)) chunk ∷ []; checks = 2; outs = length }
circuit_totals (Multihot length weight chunk) = record { calls = quotient_up (meas_len_of (Multihot length weight chunk)) chunk ∷ []; checks = 2; outs = length }

-- `check` finds no fault in the circuit of parameters that fit, and counts these
abbrev pub CircuitsPass : Type 0
CircuitsPass = (params : Params) → Fits params → verdict (standard_program params) ≡ Ok (circuit_totals params)

-- a plan of the circuit has at most 1,048,576 wires and as many terms
abbrev pub PlansAreSmall : Type 0
PlansAreSmall =
    (params : Params) → Fits params
    → (wire_count (standard_program params) ≤ 1048576) × (term_count (standard_program params) ≤ 1048576)
