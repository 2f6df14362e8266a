-- Nonces that are known behind some records: where each comes from.
use Rattle.std.proofs.Common.{◌≡◌, ℕ, zero, suc, ◌<◌, ◌≤◌, List, [], ◌∷◌, length, map, get_or, take, Bool, true, false, ◌||◌, nat_eq, refl, sym, ap, ◌∙◌, arith, inl, inr, ⊎_elim}
use Rattle.std.specs.Prelude.{◌⊎◌}
use Rattle.std.specs.Cmp.Lexicographic.{pointwise, bytes_decides}
use Rattle.std.proofs.Math.Bool.{or-true}
use Rattle.std.proofs.lemmas.Bool.{cases_Bool}
use Rattle.std.proofs.lemmas.List.Folds.{list_any-append}
use Rattle.flp_report.specs.Record.{nonce_in}
use Rattle.flp_known.specs.Among.{is_among}
use Rattle.flp_known.proofs.AmongLemmas.{same_nonce}
use Rattle.flp_verdict.specs.Verdicts.{known_behind}

-- one of two lists has it
either : (a b : Bool) → (a || b) ≡ true → (a ≡ true) ⊎ (b ≡ true)
either true b is = inl refl
either false b is = inr is

pub found-before : (reports : List (List ℕ)) (i : ℕ) (nonce : List ℕ) → i ≤ length reports → is_among (map nonce_in (take i reports)) nonce ≡ true
    → (j : ℕ) × (j < i) × (nonce_in (get_or reports j []) ≡ nonce)
found-before reports zero nonce few has = cc
found-before [] (suc i) nonce few has = absurd (omega arith)
found-before (r ∷ reports) (suc i) nonce few has =
    let fewer : i ≤ length reports = omega arith in
    ⊎_elim
    (λ (here : pointwise nat_eq nonce (nonce_in r) ≡ true). let first : 0 < suc i = omega arith in (0, first, sym (same_nonce nonce (nonce_in r) here)))
    (λ (other : pointwise nat_eq nonce (nonce_in r) ≡ false).
    let later = found-before reports i nonce fewer (rw other at has) in
    let below : suc later.0 < suc i = omega (arith, later.1) in
    (suc later.0, below, later.2))
    (cases_Bool (pointwise nat_eq nonce (nonce_in r)))

pub before-found : (reports : List (List ℕ)) (i j : ℕ) (nonce : List ℕ) → i ≤ length reports → j < i → nonce_in (get_or reports j []) ≡ nonce → is_among (map nonce_in (take i reports)) nonce ≡ true
before-found reports zero j nonce few below same = absurd (omega arith)
before-found [] (suc i) j nonce few below same = absurd (omega arith)
before-found (r ∷ reports) (suc i) zero nonce few below same =
    ap (λ (b : Bool). b || is_among (map nonce_in (take i reports)) nonce) ((bytes_decides nonce (nonce_in r)).1 (sym same))
before-found (r ∷ reports) (suc i) (suc j) nonce few below same =
    let fewer : i ≤ length reports = omega arith in
    let less : j < i = omega arith in
    ap (λ (b : Bool). pointwise nat_eq nonce (nonce_in r) || b) (before-found reports i j nonce fewer less same) ∙ or-true (pointwise nat_eq nonce (nonce_in r))

-- known behind the first records: an old claim, or the nonce of one of them
pub known-cases : (claims earlier : List (List ℕ)) (nonce : List ℕ) → is_among (known_behind claims earlier) nonce ≡ true
    → (is_among claims nonce ≡ true) ⊎ (is_among (map nonce_in earlier) nonce ≡ true)
known-cases claims earlier nonce is =
    either (is_among claims nonce) (is_among (map nonce_in earlier) nonce) (sym (list_any-append (pointwise nat_eq nonce) claims (map nonce_in earlier)) ∙ is)

pub known-old : (claims earlier : List (List ℕ)) (nonce : List ℕ) → is_among claims nonce ≡ true → is_among (known_behind claims earlier) nonce ≡ true
known-old claims earlier nonce is =
    list_any-append (pointwise nat_eq nonce) claims (map nonce_in earlier)
    ∙ ap (λ (b : Bool). b || is_among (map nonce_in earlier) nonce) is

pub known-earlier : (claims earlier : List (List ℕ)) (nonce : List ℕ) → is_among (map nonce_in earlier) nonce ≡ true → is_among (known_behind claims earlier) nonce ≡ true
known-earlier claims earlier nonce is =
    list_any-append (pointwise nat_eq nonce) claims (map nonce_in earlier)
    ∙ (ap (λ (b : Bool). is_among claims nonce || b) is ∙ or-true (is_among claims nonce))
