-- Old claims and the nonces that were met, merged in their order.
use Rattle.std.proofs.Common.{◌≡◌, ℕ, zero, suc, ◌≤◌, List, [], ◌∷◌, ◌++◌, drop, Option, Some, None, Bool, true, false, ◌||◌, Ordering, Less, Equal, Greater, refl, sym, ap, ap₂, subst, ◌∙◌}
use Rattle.std.specs.Prelude.{IfSome, slice_get, slice_range}
use Rattle.std.specs.List.{All, AllPass}
use Rattle.std.specs.List.Sorted.{IsStrictlySortedBy}
use Rattle.std.specs.Ordering.{is_lt, nat_cmp, ordering_reverse}
use Rattle.std.specs.Cmp.Lexicographic.{slice_cmp, nat_list_cmp_total}
use Rattle.std.proofs.lemmas.Grind.{flat_map-append}
use Rattle.std.proofs.lemmas.List.Elements.{All-cons, All-head, All-tail, All-weaker}
use Rattle.std.proofs.lemmas.List.Folds.{drop_split, list_any-append}
use Rattle.std.proofs.lemmas.Map.Keys.{sorted_tail}
use Rattle.std.proofs.lemmas.Map.Lookups.{exact_bytes}
use Rattle.std.proofs.lemmas.Map.Views.{All-after_first}
use Rattle.flp_known.specs.Among.{is_among, any_among}
use Rattle.flp_known.specs.Order.{is_below, with_nonce, with_nonces}
use Rattle.flp_known.specs.Claims.{claim_line, claim_lines}
use Rattle.flp_known.proofs.AmongLemmas.{among-at}
use Rattle.flp_known.proofs.InsertLemmas.{by_order, insert-less, insert-greater, any-inserts}

abbrev pub compare : List ℕ → List ℕ → Ordering
compare = slice_cmp nat_cmp

-- a nonce is below all of these
abbrev IsBelowAll : List (List ℕ) → List ℕ → Type 0
IsBelowAll nonces x = All (λ n. compare x n ≡ Less) nonces

-- the first stays the first where all others are above it
stays-first : (x : List ℕ) (xs more : List (List ℕ)) → IsBelowAll more x → with_nonces (x ∷ xs) more ≡ x ∷ with_nonces xs more
stays-first x xs [] below = refl
stays-first x xs (n ∷ more) below =
    let over : compare n x ≡ Greater = nat_list_cmp_total.antisymm n x ∙ ap ordering_reverse (All-head (λ m. compare x m ≡ Less) n more below) in
    ap (λ (l : List (List ℕ)). with_nonces l more) (insert-greater compare x xs n over)
    ∙ stays-first x (with_nonce xs n) more (All-tail (λ m. compare x m ≡ Less) n more below)

-- and so do several
stay-first : (front xs more : List (List ℕ)) → All (IsBelowAll more) front → with_nonces (front ++ xs) more ≡ front ++ with_nonces xs more
stay-first [] xs more below = refl
stay-first (x ∷ front) xs more below =
    stays-first x (front ++ xs) more (All-head (IsBelowAll more) x front below)
    ∙ ap (λ (l : List (List ℕ)). x ∷ l) (stay-first front xs more (All-tail (IsBelowAll more) x front below))

-- what is below the first of rising nonces is below all of them
below-all : (x n : List ℕ) (more : List (List ℕ)) → IsStrictlySortedBy compare (n ∷ more) → compare x n ≡ Less → IsBelowAll (n ∷ more) x
below-all x n more rise less =
    All-cons (λ m. compare x m ≡ Less) n more less
    (All-weaker (λ m. compare n m ≡ Less) (λ m. compare x m ≡ Less) (λ m next. nat_list_cmp_total.trans x n m less next) more (All-after_first compare n more rise))

is-less : (r : Ordering) → is_lt r ≡ true → r ≡ Less
is-less Less is = refl
is-less Equal is = cc
is-less Greater is = cc

-- a claim that is not below another nonce is above it
above-at : (claims : List (List ℕ)) (i : ℕ) (n : List ℕ) (o : Option (List ℕ)) → slice_get claims i ≡ o → is_among claims n ≡ false
    → IfSome o (λ c. is_below c n ≡ false) → IfSome o (λ c. compare n c ≡ Less)
above-at claims i n None at other stop = tt
above-at claims i n (Some c) at other stop =
    by_order (compare n c ≡ Less) (compare c n)
    (λ less. let no : true ≡ false = sym (ap is_lt less) ∙ stop in cc)
    (λ equal. let no : true ≡ false = sym (among-at claims n i (at ∙ ap Some (exact_bytes c n equal))) ∙ other in cc)
    (λ greater. nat_list_cmp_total.antisymm n c ∙ ap ordering_reverse greater)

-- so the nonce goes in front of it
goes-first : (claims : List (List ℕ)) (i : ℕ) (n : List ℕ) → IfSome (slice_get claims i) (λ c. compare n c ≡ Less) → with_nonce (drop i claims) n ≡ n ∷ drop i claims
goes-first [] zero n less = refl
goes-first [] (suc i) n less = refl
goes-first (c ∷ claims) zero n less = insert-less compare c claims n less
goes-first (c ∷ claims) (suc i) n less = goes-first claims i n less

-- the claims below the least nonce, then it, and then the others
merged : (claims : List (List ℕ)) (next end : ℕ) (n : List ℕ) (more : List (List ℕ)) → next ≤ end → IsStrictlySortedBy compare (n ∷ more) → is_among claims n ≡ false
    → AllPass (λ c. is_below c n) (slice_range claims next end) → IfSome (slice_get claims end) (λ c. is_below c n ≡ false)
    → with_nonces (drop next claims) (n ∷ more) ≡ slice_range claims next end ++ n ∷ with_nonces (drop end claims) more
merged claims next end n more le rise other below stop =
    let front = slice_range claims next end in
    let under : All (IsBelowAll (n ∷ more)) front =
    All-weaker (λ c. is_below c n ≡ true) (IsBelowAll (n ∷ more)) (λ c is. below-all c n more rise (is-less (compare c n) is)) front below in
    ap (λ (l : List (List ℕ)). with_nonces l (n ∷ more)) (drop_split claims next end le)
    ∙ (stay-first front (drop end claims) (n ∷ more) under
    ∙ ap (λ (l : List (List ℕ)). front ++ l)
    (ap (λ (l : List (List ℕ)). with_nonces l more) (goes-first claims end n (above-at claims end n (slice_get claims end) refl other stop))
    ∙ stays-first n (drop end claims) more (All-after_first compare n more rise)))

-- of nonces none of which is a claim the first is none, and none of the others
neither : (a b : Bool) → (a || b) ≡ false → (a ≡ false) × (b ≡ false)
neither true b is = cc
neither false b is = (refl, is)

pub apart-both : (claims rest : List (List ℕ)) (n : List ℕ) (more : List (List ℕ)) → rest ≡ n ∷ more → any_among claims rest ≡ false
    → (is_among claims n ≡ false) × (any_among claims more ≡ false)
apart-both claims rest n more is apart = neither (is_among claims n) (any_among claims more) (sym (ap (any_among claims) is) ∙ apart)

-- with one more that is no claim there is still none
pub apart-more : (claims met : List (List ℕ)) (n : List ℕ) → is_among claims n ≡ false → any_among claims met ≡ false → any_among claims (with_nonce met n) ≡ false
apart-more claims met n other apart =
    any-inserts compare nat_list_cmp_total exact_bytes (is_among claims) met (n ∷ [])
    ∙ (list_any-append (is_among claims) met (n ∷ []) ∙ ap₂ (λ (a : Bool) (b : Bool). a || (b || false)) apart other)

pub rises-on : (rest : List (List ℕ)) (n : List ℕ) (more : List (List ℕ)) → rest ≡ n ∷ more → IsStrictlySortedBy compare rest → IsStrictlySortedBy compare more
rises-on rest n more is rise = sorted_tail compare n more (subst (IsStrictlySortedBy compare) is rise)

-- the lines of the claims below the least nonce, then its line, and then those of the others
pub merged-lines : (claims : List (List ℕ)) (next end : ℕ) (rest : List (List ℕ)) (n : List ℕ) (more : List (List ℕ)) → rest ≡ n ∷ more → next ≤ end
    → IsStrictlySortedBy compare rest → any_among claims rest ≡ false
    → AllPass (λ c. is_below c n) (slice_range claims next end) → IfSome (slice_get claims end) (λ c. is_below c n ≡ false)
    → claim_lines (with_nonces (drop next claims) rest)
    ≡ claim_lines (slice_range claims next end) ++ (claim_line n ++ claim_lines (with_nonces (drop end claims) more))
merged-lines claims next end rest n more is le rise apart below stop =
    let other = (apart-both claims rest n more is apart).0 in
    ap (λ (l : List (List ℕ)). claim_lines (with_nonces (drop next claims) l)) is
    ∙ (ap claim_lines (merged claims next end n more le (subst (IsStrictlySortedBy compare) is rise) other below stop)
    ∙ flat_map-append claim_line (slice_range claims next end) (n ∷ with_nonces (drop end claims) more))
