-- The parameters of the standard circuits: their limits, the lengths that they give, and the first refusal.
use Rattle.std.specs.Prelude.{ℕ, ◌+◌, ◌-◌, ◌*◌, ◌/◌, ◌≡◌, ◌==◌, nat_le, if◌then◌else◌, List, [], ◌∷◌, ◌++◌, Option, None, Some}
use Rattle.std.specs.Option.{option_or}
use Rattle.flp_syntax.specs.declared.syntax.Params.{Params}
use Rattle.flp_syntax.specs.declared.syntax.Params.TheVariants.{Count, Sum, SumVec, Histogram, Multihot}
use Rattle.flp_circuits.specs.declared.fault.Param.{Param}
use Rattle.flp_circuits.specs.declared.fault.Param.TheVariants.{Max, Length, Bits, Chunk, Weight, Meas, Calls}
use Rattle.flp_circuits.specs.declared.fault.ParamFault.{ParamFault}
use Rattle.flp_circuits.specs.declared.fault.ParamFault.TheVariants.{Memory, Zero, TooLarge}
use Rattle.flp_circuits.specs.Bits.{bit_length}

-- how many numbers a measurement has
abbrev pub input_len_of : Params → ℕ
input_len_of Count = 1
input_len_of (Sum max) = 1
input_len_of (SumVec length bits chunk) = length
input_len_of (Histogram length chunk) = 1
input_len_of (Multihot length weight chunk) = length

-- how many words an encoding has
abbrev pub meas_len_of : Params → ℕ
meas_len_of Count = 1
meas_len_of (Sum max) = 2 * bit_length max
meas_len_of (SumVec length bits chunk) = length * bits
meas_len_of (Histogram length chunk) = length
meas_len_of (Multihot length weight chunk) = length + bit_length weight

-- the least whole number that is at least the quotient
abbrev pub quotient_up : ℕ → ℕ → ℕ
quotient_up n divisor = (n + (divisor - 1)) / divisor

-- a parameter, or a number that parameters give, with its limit
pub record Limited : Type 0 where
  pub which : Param
  pub value : ℕ
  pub limit : ℕ

abbrev pub limited : Param → ℕ → ℕ → Limited
limited which value limit = record { which = which; value = value; limit = limit }

-- the parameters in the order of the text
abbrev pub parameters : Params → List Limited
parameters Count = []
parameters (Sum max) = limited Max max 9223372036854775807 ∷ []
parameters (SumVec length bits chunk) = limited Length length 65536 ∷ limited Bits bits 63 ∷ limited Chunk chunk 512 ∷ []
parameters (Histogram length chunk) = limited Length length 65536 ∷ limited Chunk chunk 512 ∷ []
parameters (Multihot length weight chunk) = limited Length length 65536 ∷ limited Weight weight length ∷ limited Chunk chunk 512 ∷ []

-- words of the encoding; and, where the words are taken by chunks, calls of the gadget: one a chunk
abbrev pub by_chunks : ℕ → ℕ → List Limited
by_chunks meas chunk = limited Meas meas 65536 ∷ limited Calls (quotient_up meas chunk) 4095 ∷ []

abbrev pub counts : Params → List Limited
counts Count = []
counts (Sum max) = []
counts (SumVec length bits chunk) = by_chunks (meas_len_of (SumVec length bits chunk)) chunk
counts (Histogram length chunk) = by_chunks (meas_len_of (Histogram length chunk)) chunk
counts (Multihot length weight chunk) = by_chunks (meas_len_of (Multihot length weight chunk)) chunk

abbrev pub first_zero : List Limited → Option ParamFault
first_zero [] = None
first_zero (one ∷ more) = if one.value == 0 then Some (Zero one.which) else first_zero more

abbrev pub first_too_large : List Limited → Option ParamFault
first_too_large [] = None
first_too_large (one ∷ more) = if nat_le one.value one.limit then first_too_large more else Some (TooLarge one.which one.value)

-- the first parameter that is 0; else the first that is above its limit; else words, then calls
abbrev pub first_refusal : Params → Option ParamFault
first_refusal params = option_or (first_zero (parameters params)) (first_too_large (parameters params ++ counts params))

-- no parameter is refused
abbrev pub Fits : Params → Type 0
Fits params = first_refusal params ≡ None

-- why the parameters are refused, want of memory aside, which is met only where they are not
abbrev pub IsParamFault : Params → ParamFault → Type 0
IsParamFault params Memory = Fits params
IsParamFault params (Zero which) = first_refusal params ≡ Some (Zero which)
IsParamFault params (TooLarge which value) = first_refusal params ≡ Some (TooLarge which value)
