-- Which nonces are in a list.
use Rattle.std.proofs.Common.{◌≡◌, ℕ, zero, suc, List, [], ◌∷◌, get_or, Bool, true, false, ◌||◌, nat_eq, Some, sym, ap, ◌∙◌, ⊎_elim}
use Rattle.std.specs.Prelude.{◌↔◌, Contains, slice_get}
use Rattle.std.specs.List.{list_any}
use Rattle.std.specs.Ordering.{nat_cmp}
use Rattle.std.specs.Cmp.Lexicographic.{pointwise, slice_cmp, bytes_decides, texts_ties}
use Rattle.std.specs.BTreeMap.{is_at}
use Rattle.std.proofs.Math.Bool.{or-true}
use Rattle.std.proofs.lemmas.Bool.{cases_Bool}
use Rattle.std.proofs.lemmas.List.Folds.{list_any_at}
use Rattle.std.proofs.lemmas.Map.Views.{Contains-from_any}
use Rattle.flp_known.specs.Among.{is_among}

-- a list has exactly the nonces that are found in it
pub same_nonce : (x y : List ℕ) → pointwise nat_eq x y ≡ true → x ≡ y
same_nonce x y is = (bytes_decides x y).0 is

pub found-among : (nonces : List (List ℕ)) (nonce : List ℕ) → is_among nonces nonce ≡ true → Contains nonces nonce
found-among nonces nonce is = Contains-from_any same_nonce nonce nonces is

pub among-found : (nonces : List (List ℕ)) (nonce : List ℕ) → Contains nonces nonce → is_among nonces nonce ≡ true
among-found nonces nonce has =
    list_any_at (pointwise nat_eq nonce) nonces has.0 nonce has.1 ((bytes_decides nonce (get_or nonces has.0 nonce)).1 (sym has.2))

pub is_among-Contains : (nonces : List (List ℕ)) (nonce : List ℕ) → (is_among nonces nonce ≡ true) ↔ Contains nonces nonce
is_among-Contains nonces nonce = (found-among nonces nonce, among-found nonces nonce)

-- and each of them at a place
pub among-at : (nonces : List (List ℕ)) (nonce : List ℕ) (k : ℕ) → slice_get nonces k ≡ Some nonce → is_among nonces nonce ≡ true
among-at [] nonce k is = cc
among-at (x ∷ nonces) nonce zero is =
    let same : nonce ≡ x = cc in
    ap (λ (b : Bool). b || is_among nonces nonce) ((bytes_decides nonce x).1 same)
among-at (x ∷ nonces) nonce (suc k) is =
    ap (λ (b : Bool). pointwise nat_eq nonce x || b) (among-at nonces nonce k is) ∙ or-true (pointwise nat_eq nonce x)

-- the first or one of the others
pub among-cases : (P : Type 0) (x : List ℕ) (nonces : List (List ℕ)) (nonce : List ℕ) → is_among (x ∷ nonces) nonce ≡ true
    → (nonce ≡ x → P) → (is_among nonces nonce ≡ true → P) → P
among-cases P x nonces nonce is first other =
    ⊎_elim
    (λ (here : pointwise nat_eq nonce x ≡ true). first (same_nonce nonce x here))
    (λ (no : pointwise nat_eq nonce x ≡ false). other (sym (ap (λ (b : Bool). b || is_among nonces nonce) no) ∙ is))
    (cases_Bool (pointwise nat_eq nonce x))

pub at-among : (nonces : List (List ℕ)) (nonce : List ℕ) → is_among nonces nonce ≡ true → (k : ℕ) × (slice_get nonces k ≡ Some nonce)
at-among [] nonce is = cc
at-among (x ∷ nonces) nonce is =
    among-cases ((k : ℕ) × (slice_get (x ∷ nonces) k ≡ Some nonce)) x nonces nonce is
    (λ same. (0, ap Some (sym same)))
    (λ other. let later = at-among nonces nonce other in (suc later.0, later.1))

-- an ordered set of nonces answers the same
pub among-keys : (nonces : List (List ℕ)) (nonce : List ℕ) → is_among nonces nonce ≡ list_any (is_at (slice_cmp nat_cmp nonce)) nonces
among-keys nonces nonce = ap (λ (test : List ℕ → Bool). list_any test nonces) (λ i other. texts_ties nonce other i)
