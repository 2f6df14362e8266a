-- The check at which an encoding fails is the least that is not 0.
use Rattle.std.proofs.Common.{ℕ, zero, suc, ◌≡◌, ◌≢◌, ◌+◌, ◌<◌, Bool, true, false, cond, List, [], ◌∷◌, length, Option, None, Some, refl, sym, subst, ◌∙◌, eqb, arith}
use Rattle.std.specs.Prelude.{not, slice_index}
use Rattle.std.specs.List.{All, position_from}
use Rattle.std.proofs.lemmas.Bool.{false≢true, eqb-true, eq-eqb}
use Rattle.std.proofs.lemmas.List.Elements.{All-cons}
use Rattle.flp_syntax.specs.Tree.{Program}
use Rattle.flp_meaning.specs.Circuit.{checks_of, direct, IsValid, failing_check}
use Rattle.flp_meaning.specs.Gadgets.{check_count}
use Rattle.flp_meaning.specs.MeaningLaws.{IsFailing, FailingCheckIsFound}
use Rattle.flp_meaning.proofs.Fixed.{checks_are_fixed}

-- the search from a place on, among checks of which the first has this number
FailsIn : (start : ℕ) (checks : List ℕ) → Option ℕ → Type 0
FailsIn start checks None = All (λ value. value ≡ 0) checks
FailsIn start checks (Some number) =
    (place : ℕ) × (number ≡ start + place) × (place < length checks) × (slice_index checks place ≢ 0)
    × ((earlier : ℕ) → earlier < place → slice_index checks earlier ≡ 0)

fails_later : (start value : ℕ) (checks : List ℕ) (found : Option ℕ) → value ≡ 0 → FailsIn (start + 1) checks found
    → FailsIn start (value ∷ checks) found
unfolding FailsIn
fails_later start value checks None is h = All-cons (λ v. v ≡ 0) value checks is h
fails_later start value checks (Some number) is h = (
  suc h.0,
  let here : number ≡ start + 1 + h.0 = h.1 in omega arith,
  let low : h.0 < length checks = h.2 in omega arith,
  h.3,
  before,
)
  where
    before : (earlier : ℕ) → earlier < suc h.0 → slice_index (value ∷ checks) earlier ≡ 0
    before zero low = is
    before (suc earlier) low = h.4 earlier (omega arith)

fails_here : (start value : ℕ) (checks : List ℕ) → value ≢ 0 → FailsIn start (value ∷ checks) (Some start)
unfolding FailsIn
fails_here start value checks other = (0, omega arith, omega arith, other, λ earlier low. absurd (omega arith))

fails_by_test : (start value : ℕ) (checks : List ℕ) (zero_there : Bool) → eqb value 0 ≡ zero_there
    → FailsIn (start + 1) checks (position_from (λ value. not (eqb value 0)) (start + 1) checks)
    → FailsIn start (value ∷ checks) (cond (not zero_there) (Some start) (position_from (λ value. not (eqb value 0)) (start + 1) checks))
fails_by_test start value checks true is later = fails_later start value checks _ (eqb-true value 0 is) later
fails_by_test start value checks false is later = fails_here start value checks (λ same. false≢true (sym is ∙ eq-eqb value 0 same))

fails_in : (start : ℕ) (checks : List ℕ) → FailsIn start checks (position_from (λ value. not (eqb value 0)) start checks)
unfolding FailsIn
fails_in start [] = λ k d low. absurd (omega arith)
fails_in start (value ∷ checks) = fails_by_test start value checks (eqb value 0) refl (fails_in (start + 1) checks)

from_first : (body : Program) (x joint : List ℕ) (found : Option ℕ) → FailsIn 0 (checks_of body (direct body x joint)) found
    → IsFailing body x joint found
unfolding FailsIn
from_first body x joint None h = h
from_first body x joint (Some number) h =
    let own : number ≡ h.0 = let e : number ≡ 0 + h.0 = h.1 in omega arith in
    let count : length (checks_of body (direct body x joint)) ≡ check_count body = checks_are_fixed body (direct body x joint) in
    let low : h.0 < length (checks_of body (direct body x joint)) = h.2 in
    subst (λ k. IsFailing body x joint (Some k)) (sym own) (omega arith, h.3, h.4)

pub failing_check_is_found : FailingCheckIsFound
failing_check_is_found body x joint =
    from_first body x joint (failing_check body x joint) (fails_in 0 (checks_of body (direct body x joint)))

-- ---- what was found

pub failing-inside : (body : Program) (x joint : List ℕ) (number : ℕ) → failing_check body x joint ≡ Some number → number < check_count body
failing-inside body x joint number is = (subst (IsFailing body x joint) is (failing_check_is_found body x joint)).0

pub failing-not_zero : (body : Program) (x joint : List ℕ) (number : ℕ) → failing_check body x joint ≡ Some number
    → slice_index (checks_of body (direct body x joint)) number ≢ 0
failing-not_zero body x joint number is = (subst (IsFailing body x joint) is (failing_check_is_found body x joint)).1

pub none_fails-valid : (body : Program) (x joint : List ℕ) → failing_check body x joint ≡ None → IsValid body x joint
none_fails-valid body x joint is = subst (IsFailing body x joint) is (failing_check_is_found body x joint)

pub valid-none_fails : (body : Program) (x joint : List ℕ) (found : Option ℕ) → failing_check body x joint ≡ found → IsValid body x joint → found ≡ None
valid-none_fails body x joint None is valid = refl
valid-none_fails body x joint (Some number) is valid =
    let count : length (checks_of body (direct body x joint)) ≡ check_count body = checks_are_fixed body (direct body x joint) in
    let low : number < check_count body = failing-inside body x joint number is in
    absurd (failing-not_zero body x joint number is (valid number 0 (omega arith)))
