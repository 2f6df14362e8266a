-- What parameters keep to that are not refused.
use Rattle.std.proofs.Common.{ℕ, zero, suc, ◌+◌, ◌-◌, ◌*◌, ◌<◌, ◌≤◌, ◌≡◌, Bool, true, false, cond, eqb, leb, List, [], ◌∷◌, ◌++◌, Option, None, Some, refl, arith}
use Rattle.std.proofs.Math.Nat.{div-mul-le_self, le-div_iff_mul-le}
use Rattle.std.proofs.lemmas.Bool.{leb-true, eqb-false}
use Rattle.flp_syntax.specs.declared.syntax.Params.{Params}
use Rattle.flp_circuits.specs.Bits.{bit_length}
use Rattle.flp_circuits.specs.Sizes.{Limited, Fits, parameters, counts, first_zero, first_too_large, quotient_up}
use Rattle.flp_circuits.proofs.BitLemmas.{bit_length-is, exponents_apart}
use Rattle.flp_circuits.proofs.EncodingLemmas.{cond_none, option_or_none}

cond_some : {A : Type 0} (b : Bool) (o : Option A) (x : A) → cond b (Some x) o ≡ None → (b ≡ false) × (o ≡ None)
cond_some true o x h = cc
cond_some false o x h = (refl, h)

-- none of these is 0
abbrev pub ArePositive : List Limited → Type 0
ArePositive [] = Unit {0}
ArePositive (one ∷ more) = (0 < one.value) × ArePositive more

-- each of these is at most its limit
abbrev pub AreWithin : List Limited → Type 0
AreWithin [] = Unit {0}
AreWithin (one ∷ more) = (one.value ≤ one.limit) × AreWithin more

positive : (list : List Limited) → first_zero list ≡ None → ArePositive list
positive [] h = tt
positive (one ∷ more) h =
    let parts = cond_some (eqb one.value 0) (first_zero more) _ h in
    (above one.value (eqb-false one.value 0 parts.0), positive more parts.1)
  where
    above : (n : ℕ) → (n ≡ 0 → ⊥) → 0 < n
    above zero h = absurd (h refl)
    above (suc n) h = omega arith

within : (list : List Limited) → first_too_large list ≡ None → AreWithin list
within [] h = tt
within (one ∷ more) h =
    let parts = cond_none (leb one.value one.limit) (first_too_large more) _ h in
    (leb-true one.value one.limit parts.0, within more parts.1)

pub fitting : (params : Params) → Fits params → ArePositive (parameters params) × AreWithin (parameters params ++ counts params)
fitting params h =
    let parts = option_or_none (first_zero (parameters params)) (first_too_large (parameters params ++ counts params)) h in
    (positive (parameters params) parts.0, within (parameters params ++ counts params) parts.1)

-- a number above 0 has a bit
pub bit_length-some : (n : ℕ) → 0 < n → 1 ≤ bit_length n
bit_length-some n h = exponents_apart n 0 (bit_length n) (omega arith) (bit_length-is n).0

-- the calls that take some words by chunks
pub quotient-some : (words chunk : ℕ) → 0 < words → 0 < chunk → 1 ≤ quotient_up words chunk
quotient-some words chunk some h =
    let top : chunk ≤ words + (chunk - 1) = omega arith in
    (le-div_iff_mul-le {k = chunk} {x = 1} {y = words + (chunk - 1)} h).1 (omega arith)

pub quotient-few : (words chunk : ℕ) → 0 < chunk → quotient_up words chunk * chunk ≤ words + (chunk - 1)
quotient-few words chunk h = div-mul-le_self (words + (chunk - 1)) chunk
