-- What a standard circuit says of its encodings.
use Rattle.std.proofs.Common.{◌≡◌, refl}
use Rattle.flp_syntax.specs.declared.syntax.Params.{Params}
use Rattle.flp_syntax.specs.declared.syntax.Params.TheVariants.{Count, Sum, SumVec, Histogram, Multihot}
use Rattle.flp_circuits.specs.Sizes.{meas_len_of}
use Rattle.flp_circuits.specs.Standard.{standard_program}

-- how many words an encoding has
pub meas-standard : (params : Params) → (standard_program params).meas ≡ meas_len_of params
meas-standard Count = refl
meas-standard (Sum max) = refl
meas-standard (SumVec length bits chunk) = refl
meas-standard (Histogram length chunk) = refl
meas-standard (Multihot length weight chunk) = refl
