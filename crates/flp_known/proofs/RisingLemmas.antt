-- Nonces in strictly rising order: where they stand, and one more at its place.
use Rattle.std.proofs.Common.{◌≡◌, ℕ, zero, suc, ◌<◌, List, [], ◌∷◌, ◌++◌, Some, None, true, nat_eq, Ordering, Less, Equal, Greater, refl, sym, ap, subst, ◌∙◌, arith}
use Rattle.std.specs.Prelude.{slice_get, if◌then◌else◌}
use Rattle.std.specs.Ordering.{is_lt, nat_cmp, ordering_reverse}
use Rattle.std.specs.Cmp.{tied_itself}
use Rattle.std.specs.Cmp.Lexicographic.{pointwise, slice_cmp, nat_list_cmp_total}
use Rattle.std.proofs.lemmas.Map.Lookups.{exact_bytes}
use Rattle.flp_report.specs.Pieces.{fall_after, fall_in}
use Rattle.flp_known.specs.Among.{is_among}
use Rattle.flp_known.specs.Order.{with_nonce, with_nonces}
use Rattle.flp_known.proofs.AmongLemmas.{among-at, among-cases}
use Rattle.flp_known.proofs.InsertLemmas.{by_order, insert-less, insert-equal, insert-greater, any-inserts, inserts-first}

abbrev compare : List ℕ → List ℕ → Ordering
compare = slice_cmp nat_cmp

-- each of the two is above the one before
rises-by : (place : ℕ) (before x : List ℕ) (xs : List (List ℕ)) (r : Ordering) → compare before x ≡ r
    → (if is_lt r then fall_after (suc place) x xs else Some place) ≡ None → (compare before x ≡ Less) × (fall_after (suc place) x xs ≡ None)
rises-by place before x xs Less is none = (is, none)
rises-by place before x xs Equal is none = cc
rises-by place before x xs Greater is none = cc

rises : (place : ℕ) (before x : List ℕ) (xs : List (List ℕ)) → fall_after place before (x ∷ xs) ≡ None
    → (compare before x ≡ Less) × (fall_after (suc place) x xs ≡ None)
rises place before x xs none = rises-by place before x xs (compare before x) refl none

rising : (place : ℕ) (before x : List ℕ) (xs : List (List ℕ)) → compare before x ≡ Less → fall_after (suc place) x xs ≡ None
    → fall_after place before (x ∷ xs) ≡ None
rising place before x xs less none = ap (λ (r : Ordering). if is_lt r then fall_after (suc place) x xs else Some place) less ∙ none

-- from whatever number they are counted
moved : (place other : ℕ) (before : List ℕ) (nonces : List (List ℕ)) → fall_after place before nonces ≡ None → fall_after other before nonces ≡ None
moved place other before [] none = refl
moved place other before (x ∷ xs) none =
    let both = rises place before x xs none in
    rising other before x xs both.0 (moved (suc place) (suc other) x xs both.1)

-- all that follow are above
above : (place : ℕ) (before : List ℕ) (nonces : List (List ℕ)) (nonce : List ℕ) → fall_after place before nonces ≡ None → is_among nonces nonce ≡ true
    → compare before nonce ≡ Less
above place before [] nonce none is = cc
above place before (x ∷ xs) nonce none is =
    let both = rises place before x xs none in
    among-cases (compare before nonce ≡ Less) x xs nonce is
    (λ same. subst (λ (z : List ℕ). compare before z ≡ Less) (sym same) both.0)
    (λ other. nat_list_cmp_total.trans before x nonce both.0 (above (suc place) x xs nonce both.1 other))

ordered-after : (place : ℕ) (before : List ℕ) (nonces : List (List ℕ)) (i j : ℕ) (x y : List ℕ) → fall_after place before nonces ≡ None → i < j
    → slice_get (before ∷ nonces) i ≡ Some x → slice_get (before ∷ nonces) j ≡ Some y → compare x y ≡ Less
ordered-after place before nonces i zero x y none less at_i at_j = absurd (omega (arith, less))
ordered-after place before nonces zero (suc j) x y none less at_i at_j =
    let same : before ≡ x = cc in
    subst (λ (z : List ℕ). compare z y ≡ Less) same (above place before nonces y none (among-at nonces y j at_j))
ordered-after place before [] (suc i) (suc j) x y none less at_i at_j = cc
ordered-after place before (z ∷ nonces) (suc i) (suc j) x y none less at_i at_j =
    let fewer : i < j = omega (arith, less) in
    ordered-after (suc place) z nonces i j x y (rises place before z nonces none).1 fewer at_i at_j

-- of two places the later has the greater nonce
pub ordered : (nonces : List (List ℕ)) (i j : ℕ) (x y : List ℕ) → fall_in nonces ≡ None → i < j → slice_get nonces i ≡ Some x → slice_get nonces j ≡ Some y
    → compare x y ≡ Less
ordered [] i j x y none less at_i at_j = cc
ordered (before ∷ nonces) i j x y none less at_i at_j = ordered-after 1 before nonces i j x y none less at_i at_j

-- ---- one more

-- one that is there changes nothing
known-after : (place : ℕ) (before : List ℕ) (nonces : List (List ℕ)) (nonce : List ℕ) → fall_after place before nonces ≡ None → is_among (before ∷ nonces) nonce ≡ true
    → with_nonce (before ∷ nonces) nonce ≡ before ∷ nonces
known-after place before [] nonce none is =
    among-cases (with_nonce (before ∷ []) nonce ≡ before ∷ []) before [] nonce is
    (λ same. insert-equal compare before [] nonce (subst (λ (z : List ℕ). compare nonce z ≡ Equal) same (tied_itself nat_list_cmp_total nonce)))
    (λ other. cc)
known-after place before (x ∷ xs) nonce none is =
    among-cases (with_nonce (before ∷ x ∷ xs) nonce ≡ before ∷ x ∷ xs) before (x ∷ xs) nonce is
    (λ same. insert-equal compare before (x ∷ xs) nonce (subst (λ (z : List ℕ). compare nonce z ≡ Equal) same (tied_itself nat_list_cmp_total nonce)))
    (λ other.
    let less = above place before (x ∷ xs) nonce none other in
    let greater : compare nonce before ≡ Greater = nat_list_cmp_total.antisymm nonce before ∙ ap ordering_reverse less in
    insert-greater compare before (x ∷ xs) nonce greater
    ∙ ap (λ (l : List (List ℕ)). before ∷ l) (known-after (suc place) x xs nonce (rises place before x xs none).1 other))

pub with_nonce-known : (nonces : List (List ℕ)) (nonce : List ℕ) → fall_in nonces ≡ None → is_among nonces nonce ≡ true → with_nonce nonces nonce ≡ nonces
with_nonce-known [] nonce none is = cc
with_nonce-known (before ∷ nonces) nonce none is = known-after 1 before nonces nonce none is

pub with_nonces-known : (nonces more : List (List ℕ)) (nonce : List ℕ) → fall_in nonces ≡ None → is_among nonces nonce ≡ true
    → with_nonce (with_nonces nonces more) nonce ≡ with_nonces nonces more
with_nonces-known nonces more nonce none is =
    sym (inserts-first compare nat_list_cmp_total exact_bytes nonces more nonce)
    ∙ ap (λ (l : List (List ℕ)). with_nonces l more) (with_nonce-known nonces nonce none is)

-- the order stays
rising-after : (place : ℕ) (before : List ℕ) (nonces : List (List ℕ)) (nonce : List ℕ) → fall_after place before nonces ≡ None → compare before nonce ≡ Less
    → fall_after place before (with_nonce nonces nonce) ≡ None
rising-after place before [] nonce none less = rising place before nonce [] less refl
rising-after place before (x ∷ xs) nonce none less =
    let both = rises place before x xs none in
    let at : List (List ℕ) → Type 0 = λ l. fall_after place before l ≡ None in
    by_order (at (with_nonce (x ∷ xs) nonce)) (compare nonce x)
    (λ under. subst at (sym (insert-less compare x xs nonce under))
    (rising place before nonce (x ∷ xs) less (rising (suc place) nonce x xs under (moved (suc place) (suc (suc place)) x xs both.1))))
    (λ same. subst at (sym (insert-equal compare x xs nonce same)) none)
    (λ over.
    let next : compare x nonce ≡ Less = nat_list_cmp_total.antisymm x nonce ∙ ap ordering_reverse over in
    subst at (sym (insert-greater compare x xs nonce over)) (rising place before x (with_nonce xs nonce) both.0 (rising-after (suc place) x xs nonce both.1 next)))

rising-more : (nonces : List (List ℕ)) (nonce : List ℕ) → fall_in nonces ≡ None → fall_in (with_nonce nonces nonce) ≡ None
rising-more [] nonce none = refl
rising-more (x ∷ xs) nonce none =
    let at : List (List ℕ) → Type 0 = λ l. fall_in l ≡ None in
    by_order (at (with_nonce (x ∷ xs) nonce)) (compare nonce x)
    (λ under. subst at (sym (insert-less compare x xs nonce under)) (rising 1 nonce x xs under (moved 1 2 x xs none)))
    (λ same. subst at (sym (insert-equal compare x xs nonce same)) none)
    (λ over.
    let next : compare x nonce ≡ Less = nat_list_cmp_total.antisymm x nonce ∙ ap ordering_reverse over in
    subst at (sym (insert-greater compare x xs nonce over)) (rising-after 1 x xs nonce none next))

pub rising-with_nonces : (nonces more : List (List ℕ)) → fall_in nonces ≡ None → fall_in (with_nonces nonces more) ≡ None
rising-with_nonces nonces [] none = none
rising-with_nonces nonces (nonce ∷ more) none = rising-with_nonces (with_nonce nonces nonce) more (rising-more nonces nonce none)

-- the nonces of both lists, and no other
pub is_among-with_nonces : (nonces more : List (List ℕ)) (nonce : List ℕ) → is_among (with_nonces nonces more) nonce ≡ is_among (nonces ++ more) nonce
is_among-with_nonces nonces more nonce = any-inserts compare nat_list_cmp_total exact_bytes (pointwise nat_eq nonce) nonces more
