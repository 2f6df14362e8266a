-- The search for a check that is not 0.
use Rattle.std.proofs.Common.{◌≡◌, ℕ, ◌+◌, ◌≤◌, Bool, true, false, cond, List, length, drop, get_or, Option, Some, None, ap, ◌∙◌, eqb}
use Rattle.std.specs.Prelude.{not}
use Rattle.std.specs.List.{slice_get, position_from}
use Rattle.std.proofs.lemmas.List.{drop_more, drop_all}
use Rattle.std.proofs.lemmas.Option.{get_or_from_slice_get, slice_get_within}
use Rattle.flp_syntax.specs.Tree.{Program}
use Rattle.flp_meaning.specs.Meaning.{Meant, Results}
use Rattle.flp_meaning.specs.Circuit.{checks_of, direct, with_answers}
use Rattle.flp_meaning.specs.MeaningLaws.{AnsweredIsDirect, call_values}

-- the search from the check of this number on
abbrev pub failing_from : ℕ → List ℕ → Option ℕ
failing_from index checks = position_from (λ value. not (eqb value 0)) index (drop index checks)

-- one step
failing-step : (index value : ℕ) (checks : List ℕ) → slice_get checks index ≡ Some value
    → failing_from index checks ≡ cond (not (eqb value 0)) (Some index) (failing_from (index + 1) checks)
failing-step index value checks at =
    let own : get_or checks index 0 ≡ value = get_or_from_slice_get checks index value 0 at in
    ap (λ (l : List ℕ). position_from (λ value. not (eqb value 0)) index l) (drop_more checks index 0 (slice_get_within checks index value at))
    ∙ ap (λ (v : ℕ). cond (not (eqb v 0)) (Some index) (failing_from (index + 1) checks)) own

-- at a check that is 0 it goes on
pub failing-more : (index value : ℕ) (checks : List ℕ) → slice_get checks index ≡ Some value → not (eqb value 0) ≡ false
    → failing_from index checks ≡ failing_from (index + 1) checks
failing-more index value checks at zero =
    failing-step index value checks at ∙ ap (λ (b : Bool). cond b (Some index) (failing_from (index + 1) checks)) zero

-- at another it ends
pub failing-here : (index value : ℕ) (checks : List ℕ) → slice_get checks index ≡ Some value → not (eqb value 0) ≡ true
    → failing_from index checks ≡ Some index
failing-here index value checks at other =
    failing-step index value checks at ∙ ap (λ (b : Bool). cond b (Some index) (failing_from (index + 1) checks)) other

-- past the last check there is none
pub failing-end : (index : ℕ) (checks : List ℕ) → length checks ≤ index → failing_from index checks ≡ None
failing-end index checks all = ap (λ (l : List ℕ). position_from (λ value. not (eqb value 0)) index l) (drop_all index checks all)

-- with the calls' own values as answers, and 1 as unit, the checks are those of the encoding
pub checks-own : (circuit : Program) (x joint answers : List ℕ) → AnsweredIsDirect → answers ≡ call_values circuit x joint
    → checks_of circuit (with_answers x joint 1 answers) ≡ checks_of circuit (direct circuit x joint)
checks-own circuit x joint answers own same =
    ap (λ (a : List ℕ). checks_of circuit (with_answers x joint 1 a)) same
    ∙ ap (λ (meant : Meant Results). meant.value.checks) (own circuit x joint)
