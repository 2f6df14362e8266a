-- What joint words tell of words, from the checks up.
use Rattle.std.specs.Prelude.{ℕ, ◌/◌, ◌==◌, nat_lt, if◌then◌else◌, Bool, List, [], Option, None, Some, position, drop}
use Rattle.std.specs.List.{list_all}
use Rattle.std.specs.Option.{option_map, option_and_then}
use Rattle.flp_syntax.specs.declared.syntax.Params.{Params}
use Rattle.flp_syntax.specs.declared.syntax.Params.TheVariants.{Count, Sum, SumVec, Histogram, Multihot}
use Rattle.flp_circuits.specs.Formulas.{formula_of}
use Rattle.flp_joint.specs.declared.caught.Caught.{Caught}
use Rattle.flp_joint.specs.declared.caught.Caught.TheVariants.{Never, Word}

-- how many words a call of the range check takes; a count and a sum have no range check
abbrev pub chunk_of : Params → Option ℕ
chunk_of Count = None
chunk_of (Sum max) = None
chunk_of (SumVec length bits chunk) = Some chunk
chunk_of (Histogram length chunk) = Some chunk
chunk_of (Multihot length weight chunk) = Some chunk

-- how many of the checks, from the first on, are range checks
abbrev pub range_checks : Params → ℕ
range_checks Count = 0
range_checks (Sum max) = 0
range_checks (SumVec length bits chunk) = 1
range_checks (Histogram length chunk) = 1
range_checks (Multihot length weight chunk) = 1

-- the other checks, which no joint word enters
abbrev pub fixed_checks : Params → List ℕ → List ℕ
fixed_checks params x = drop (range_checks params) (formula_of params x [])

-- whether all checks pass
abbrev pub are_zero : List ℕ → Bool
are_zero checks = list_all (λ value. value == 0) checks

-- the least call with a word other than 0 and 1 in its chunk, with the chunk as its bound
abbrev pub least_call : (chunk : ℕ) → List ℕ → Option Caught
least_call chunk x = option_map (λ place. Word (place / chunk) chunk) (position (λ w. nat_lt 1 w) x)

-- never where a check fails that no joint word enters, else that call's joint word
abbrev pub caught_in : Params → List ℕ → Option Caught
caught_in params x =
    if are_zero (fixed_checks params x)
    then option_and_then (λ chunk. least_call chunk x) (chunk_of params)
    else Some Never
