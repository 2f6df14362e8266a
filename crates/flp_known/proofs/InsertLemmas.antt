-- One element more in a list, at its place in an order that tells all elements apart.
use Rattle.std.proofs.Common.{◌≡◌, List, [], ◌∷◌, ◌++◌, Bool, true, false, ◌||◌, Ordering, Less, Equal, Greater, refl, sym, ap, subst, ◌∙◌, append-nil}
use Rattle.std.specs.Prelude.{fold}
use Rattle.std.specs.List.{list_any}
use Rattle.std.specs.Ordering.{ordering_reverse, match_ordering}
use Rattle.std.specs.Cmp.{IsTotalOrder, tied_itself}
use Rattle.std.specs.BTreeSet.{insert_key}
use Rattle.std.proofs.lemmas.List.Folds.{list_any-append}
use Rattle.std.proofs.lemmas.Map.Lookups.{CmpEqualImpliesEq}

-- one of the three answers of a comparison
pub by_order : (P : Type 0) (r : Ordering) → (r ≡ Less → P) → (r ≡ Equal → P) → (r ≡ Greater → P) → P
by_order P Less less equal greater = less refl
by_order P Equal less equal greater = equal refl
by_order P Greater less equal greater = greater refl

or_turned : (a b : Bool) → (a || b) ≡ (b || a)
or_turned true true = refl
or_turned true false = refl
or_turned false true = refl
or_turned false false = refl

or_again : (a b : Bool) → (a || b) ≡ ((a || b) || a)
or_again true b = refl
or_again false true = refl
or_again false false = refl

or_joined : (a b c : Bool) → (a || (b || c)) ≡ ((a || b) || c)
or_joined true b c = refl
or_joined false b c = refl

module _ {K : Type 0} (R : K → K → Ordering) where
  -- in front of a greater one, not beside an equal one, and behind a lesser one
  pub insert-less : (x : K) (xs : List K) (k : K) → R k x ≡ Less → insert_key R (x ∷ xs) k ≡ k ∷ x ∷ xs
  insert-less x xs k is = ap (λ (r : Ordering). match_ordering r (k ∷ x ∷ xs) (x ∷ xs) (x ∷ insert_key R xs k)) is

  pub insert-equal : (x : K) (xs : List K) (k : K) → R k x ≡ Equal → insert_key R (x ∷ xs) k ≡ x ∷ xs
  insert-equal x xs k is = ap (λ (r : Ordering). match_ordering r (k ∷ x ∷ xs) (x ∷ xs) (x ∷ insert_key R xs k)) is

  pub insert-greater : (x : K) (xs : List K) (k : K) → R k x ≡ Greater → insert_key R (x ∷ xs) k ≡ x ∷ insert_key R xs k
  insert-greater x xs k is = ap (λ (r : Ordering). match_ordering r (k ∷ x ∷ xs) (x ∷ xs) (x ∷ insert_key R xs k)) is

  module _ (o : IsTotalOrder R) (exact : CmpEqualImpliesEq R) where
    turned-less : (x y : K) → R x y ≡ Less → R y x ≡ Greater
    turned-less x y is = o.antisymm y x ∙ ap ordering_reverse is

    -- of a list with one more a test holds where it holds of the list, and of that one
    any-insert : (test : K → Bool) (xs : List K) (k : K) → list_any test (insert_key R xs k) ≡ (list_any test xs || test k)
    any-insert test [] k = or_turned (test k) false
    any-insert test (x ∷ xs) k =
        by_order (list_any test (insert_key R (x ∷ xs) k) ≡ (list_any test (x ∷ xs) || test k)) (R k x)
        (λ less. ap (list_any test) (insert-less x xs k less) ∙ or_turned (test k) (list_any test (x ∷ xs)))
        (λ equal.
        ap (list_any test) (insert-equal x xs k equal)
        ∙ (or_again (test x) (list_any test xs) ∙ ap (λ (y : K). list_any test (x ∷ xs) || test y) (sym (exact k x equal))))
        (λ greater.
        ap (list_any test) (insert-greater x xs k greater)
        ∙ (ap (λ (b : Bool). test x || b) (any-insert test xs k) ∙ or_joined (test x) (list_any test xs) (test k)))

    pub any-inserts : (test : K → Bool) (xs more : List K) → list_any test (fold (insert_key R) xs more) ≡ list_any test (xs ++ more)
    any-inserts test xs [] = ap (list_any test) (sym (append-nil xs))
    any-inserts test xs (k ∷ more) =
        any-inserts test (insert_key R xs k) more
        ∙ (list_any-append test (insert_key R xs k) more
        ∙ (ap (λ (b : Bool). b || list_any test more) (any-insert test xs k)
        ∙ (sym (or_joined (list_any test xs) (test k) (list_any test more)) ∙ sym (list_any-append test xs (k ∷ more)))))

    -- two more, in either order
    insert-both : (xs : List K) (a b : K) → R a b ≡ Less → insert_key R (insert_key R xs a) b ≡ insert_key R (insert_key R xs b) a
    insert-both [] a b less = insert-greater a [] b (turned-less a b less) ∙ sym (insert-less b [] a less)
    insert-both (x ∷ xs) a b less =
        let behind : (ys : List K) → insert_key R (a ∷ ys) b ≡ a ∷ insert_key R ys b = λ ys. insert-greater a ys b (turned-less a b less) in
        by_order (insert_key R (insert_key R (x ∷ xs) a) b ≡ insert_key R (insert_key R (x ∷ xs) b) a) (R b x)
        (λ before.
        ap (λ (l : List K). insert_key R l b) (insert-less x xs a (o.trans a b x less before))
        ∙ (behind (x ∷ xs)
        ∙ (ap (λ (l : List K). a ∷ l) (insert-less x xs b before)
        ∙ (sym (insert-less b (x ∷ xs) a less) ∙ ap (λ (l : List K). insert_key R l a) (sym (insert-less x xs b before))))))
        (λ same.
        let under : R a x ≡ Less = subst (λ (z : K). R a z ≡ Less) (exact b x same) less in
        ap (λ (l : List K). insert_key R l b) (insert-less x xs a under)
        ∙ (behind (x ∷ xs)
        ∙ (ap (λ (l : List K). a ∷ l) (insert-equal x xs b same)
        ∙ (sym (insert-less x xs a under) ∙ ap (λ (l : List K). insert_key R l a) (sym (insert-equal x xs b same))))))
        (λ after.
        let right : insert_key R (insert_key R (x ∷ xs) b) a ≡ insert_key R (x ∷ insert_key R xs b) a =
        ap (λ (l : List K). insert_key R l a) (insert-greater x xs b after) in
        by_order (insert_key R (insert_key R (x ∷ xs) a) b ≡ insert_key R (insert_key R (x ∷ xs) b) a) (R a x)
        (λ before.
        ap (λ (l : List K). insert_key R l b) (insert-less x xs a before)
        ∙ (behind (x ∷ xs)
        ∙ (ap (λ (l : List K). a ∷ l) (insert-greater x xs b after)
        ∙ (sym (insert-less x (insert_key R xs b) a before) ∙ sym right))))
        (λ same.
        ap (λ (l : List K). insert_key R l b) (insert-equal x xs a same)
        ∙ (insert-greater x xs b after ∙ (sym (insert-equal x (insert_key R xs b) a same) ∙ sym right)))
        (λ behind_x.
        ap (λ (l : List K). insert_key R l b) (insert-greater x xs a behind_x)
        ∙ (insert-greater x (insert_key R xs a) b after
        ∙ (ap (λ (l : List K). x ∷ l) (insert-both xs a b less)
        ∙ (sym (insert-greater x (insert_key R xs b) a behind_x) ∙ sym right)))))

    insert-turned : (xs : List K) (a b : K) → insert_key R (insert_key R xs a) b ≡ insert_key R (insert_key R xs b) a
    insert-turned xs a b =
        by_order (insert_key R (insert_key R xs a) b ≡ insert_key R (insert_key R xs b) a) (R a b)
        (λ less. insert-both xs a b less)
        (λ same. subst (λ (z : K). insert_key R (insert_key R xs a) z ≡ insert_key R (insert_key R xs z) a) (exact a b same) refl)
        (λ greater. sym (insert-both xs b a (o.antisymm b a ∙ ap ordering_reverse greater)))

    -- one that was added is there
    insert-twice : (xs : List K) (k : K) → insert_key R (insert_key R xs k) k ≡ insert_key R xs k
    insert-twice [] k = insert-equal k [] k (tied_itself o k)
    insert-twice (x ∷ xs) k =
        by_order (insert_key R (insert_key R (x ∷ xs) k) k ≡ insert_key R (x ∷ xs) k) (R k x)
        (λ less.
        ap (λ (l : List K). insert_key R l k) (insert-less x xs k less)
        ∙ (insert-equal k (x ∷ xs) k (tied_itself o k) ∙ sym (insert-less x xs k less)))
        (λ equal. ap (λ (l : List K). insert_key R l k) (insert-equal x xs k equal))
        (λ greater.
        ap (λ (l : List K). insert_key R l k) (insert-greater x xs k greater)
        ∙ (insert-greater x (insert_key R xs k) k greater
        ∙ (ap (λ (l : List K). x ∷ l) (insert-twice xs k) ∙ sym (insert-greater x xs k greater))))

    -- one more before others, or behind them
    pub inserts-first : (xs ks : List K) (k : K) → fold (insert_key R) (insert_key R xs k) ks ≡ insert_key R (fold (insert_key R) xs ks) k
    inserts-first xs [] k = refl
    inserts-first xs (y ∷ ks) k =
        ap (λ (l : List K). fold (insert_key R) l ks) (insert-turned xs k y) ∙ inserts-first (insert_key R xs y) ks k

    -- or among them, in their order
    pub inserts-insert : (xs ks : List K) (k : K) → fold (insert_key R) xs (insert_key R ks k) ≡ insert_key R (fold (insert_key R) xs ks) k
    inserts-insert xs [] k = refl
    inserts-insert xs (y ∷ ks) k =
        by_order (fold (insert_key R) xs (insert_key R (y ∷ ks) k) ≡ insert_key R (fold (insert_key R) xs (y ∷ ks)) k) (R k y)
        (λ less. ap (fold (insert_key R) xs) (insert-less y ks k less) ∙ inserts-first xs (y ∷ ks) k)
        (λ equal.
        let twice : insert_key R (insert_key R xs y) k ≡ insert_key R xs y =
        ap (insert_key R (insert_key R xs y)) (exact k y equal) ∙ insert-twice xs y in
        ap (fold (insert_key R) xs) (insert-equal y ks k equal)
        ∙ (ap (λ (l : List K). fold (insert_key R) l ks) (sym twice) ∙ inserts-first (insert_key R xs y) ks k))
        (λ greater. ap (fold (insert_key R) xs) (insert-greater y ks k greater) ∙ inserts-insert (insert_key R xs y) ks k)
