-- The search by bisection: what is known of the places in front of the rest that is looked at, and behind it.
use Rattle.std.proofs.Common.{◌≡◌, ℕ, ◌+◌, ◌<◌, ◌≤◌, List, true, false, None, Some, Less, Equal, Greater, sym, ap, subst, ◌∙◌, arith, ⊎_elim}
use Rattle.std.specs.Prelude.{slice_get}
use Rattle.std.specs.Ordering.{is_eq, nat_cmp, ordering_reverse}
use Rattle.std.specs.Cmp.{tied_itself}
use Rattle.std.specs.Cmp.Lexicographic.{slice_cmp, nat_list_cmp_total}
use Rattle.std.proofs.lemmas.Bool.{cases_Bool, cases_lt}
use Rattle.std.proofs.lemmas.Map.Lookups.{exact_bytes}
use Rattle.flp_report.specs.Pieces.{fall_in}
use Rattle.flp_known.specs.Among.{is_among}
use Rattle.flp_known.proofs.AmongLemmas.{among-at, at-among}
use Rattle.flp_known.proofs.RisingLemmas.{ordered}

some_same : (x y : List ℕ) → Some x ≡ Some y → x ≡ y
some_same x y is = cc

-- the nonces in front of one place are below a nonce, and those from another on are above it
pub record IsBetween (low high : ℕ) (nonces : List (List ℕ)) (nonce : List ℕ) : Type 0 where
  pub below : (k : ℕ) (x : List ℕ) → k < low → slice_get nonces k ≡ Some x → slice_cmp nat_cmp x nonce ≡ Less
  pub above : (k : ℕ) (x : List ℕ) → high ≤ k → slice_get nonces k ≡ Some x → slice_cmp nat_cmp x nonce ≡ Greater

-- a place whose nonce is below
pub between-less : (nonces : List (List ℕ)) (nonce found : List ℕ) (low middle high : ℕ) → fall_in nonces ≡ None → slice_get nonces middle ≡ Some found
    → slice_cmp nat_cmp found nonce ≡ Less → IsBetween low high nonces nonce → IsBetween (middle + 1) high nonces nonce
between-less nonces nonce found low middle high none is less between = record {
  below = λ k x fewer at.
      ⊎_elim
      (λ (front : k < middle). nat_list_cmp_total.trans x found nonce (ordered nonces k middle x found none front at is) less)
      (λ (rest : middle ≤ k).
      let here : k ≡ middle = omega (arith, fewer, rest) in
      let same : x ≡ found = some_same x found (sym at ∙ (ap (slice_get nonces) here ∙ is)) in
      subst (λ (z : List ℕ). slice_cmp nat_cmp z nonce ≡ Less) (sym same) less)
      (cases_lt k middle);
  above = between.above;
}

-- a place whose nonce is above
pub between-greater : (nonces : List (List ℕ)) (nonce found : List ℕ) (low middle high : ℕ) → fall_in nonces ≡ None → slice_get nonces middle ≡ Some found
    → slice_cmp nat_cmp found nonce ≡ Greater → IsBetween low high nonces nonce → IsBetween low middle nonces nonce
between-greater nonces nonce found low middle high none is greater between = record {
  below = between.below;
  above = λ k x past at.
      ⊎_elim
      (λ (behind : middle < k).
      let under : slice_cmp nat_cmp nonce found ≡ Less = nat_list_cmp_total.antisymm nonce found ∙ ap ordering_reverse greater in
      let less : slice_cmp nat_cmp nonce x ≡ Less = nat_list_cmp_total.trans nonce found x under (ordered nonces middle k found x none behind is at) in
      nat_list_cmp_total.antisymm x nonce ∙ ap ordering_reverse less)
      (λ (rest : k ≤ middle).
      let here : k ≡ middle = omega (arith, past, rest) in
      let same : x ≡ found = some_same x found (sym at ∙ (ap (slice_get nonces) here ∙ is)) in
      subst (λ (z : List ℕ). slice_cmp nat_cmp z nonce ≡ Greater) (sym same) greater)
      (cases_lt middle k);
}

-- with no place open the nonce is none of them
pub between-none : (nonces : List (List ℕ)) (nonce : List ℕ) (low high : ℕ) → high ≤ low → IsBetween low high nonces nonce → is_among nonces nonce ≡ false
between-none nonces nonce low high shut between =
    ⊎_elim
    (λ (yes : is_among nonces nonce ≡ true).
    let place = at-among nonces nonce yes in
    let itself : slice_cmp nat_cmp nonce nonce ≡ Equal = tied_itself nat_list_cmp_total nonce in
    ⊎_elim
    (λ (front : place.0 < low). let no : true ≡ false = ap is_eq (sym itself ∙ between.below place.0 nonce front place.1) in cc)
    (λ (rest : low ≤ place.0).
    let past : high ≤ place.0 = omega (arith, shut, rest) in
    let no : true ≡ false = ap is_eq (sym itself ∙ between.above place.0 nonce past place.1) in
    cc)
    (cases_lt place.0 low))
    (λ (no : is_among nonces nonce ≡ false). no)
    (cases_Bool (is_among nonces nonce))

-- a place whose nonce is equal
pub between-found : (nonces : List (List ℕ)) (nonce found : List ℕ) (middle : ℕ) → slice_get nonces middle ≡ Some found → slice_cmp nat_cmp found nonce ≡ Equal
    → is_among nonces nonce ≡ true
between-found nonces nonce found middle is equal =
    among-at nonces nonce middle (is ∙ ap Some (exact_bytes found nonce equal))
