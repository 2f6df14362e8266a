-- Lists of numbers counted, and the rows of lists one after another.
use Rattle.std.proofs.Common.{◌≡◌, ◌↔◌, ℕ, ◌+◌, ◌≤◌, ◌≢◌, Bool, true, false, IsTrue, IsSome, cond, ◌==◌, Option, Some, None, List, [], ◌∷◌, ◌++◌, sym, refl, ap, ap₂, ◌∙◌, arith, append_assoc, append-nil, eq-eqb, ne_eqb}
use Rattle.std.proofs.lemmas.List.Sums.{sum_by-append}
use Rattle.flp_tally.specs.declared.view.View.{View}
use Rattle.flp_tally.specs.declared.view.Entry.{Entry}
use Rattle.flp_tally.specs.Views.{times, with_claimed, with_missed}
use Rattle.flp_tally.specs.Rows.{row_entries, rows_entries, with_row}
use Rattle.flp_pool.specs.Work.{row_at, rows_of}
use Rattle.flp_pool.specs.Range.{with_run}

pub times-append : (x : ℕ) (xs ys : List ℕ) → times x (xs ++ ys) ≡ times x xs + times x ys
times-append x xs ys = sum_by-append (λ (y : ℕ). cond (y == x) 1 0) xs ys

pub times_one : (x : ℕ) → times x (x ∷ []) ≡ 1
times_one x = ap (λ b. 0 + cond b 1 0) (eq-eqb x x refl)

pub times_none : (x y : ℕ) → y ≢ x → times y (x ∷ []) ≡ 0
times_none x y ne = ap (λ b. 0 + cond b 1 0) (ne_eqb x y (λ e. ne (sym e)))

pub rows_of-append : (row_of : ℕ → Option (List ℕ)) (xs ys : List ℕ) → rows_of row_of (xs ++ ys) ≡ rows_of row_of xs ++ rows_of row_of ys
rows_of-append row_of [] ys = refl
rows_of-append row_of (x ∷ xs) ys = ap (λ (l : List (ℕ × List ℕ)). row_at x (row_of x) ++ l) (rows_of-append row_of xs ys) ∙ sym (append_assoc (row_at x (row_of x)) (rows_of row_of xs) (rows_of row_of ys))

-- works that bring the same rows for the numbers of a list
pub rows_of-agree : (f g : ℕ → Option (List ℕ)) (xs : List ℕ) → ((x : ℕ) → 1 ≤ times x xs → f x ≡ g x) → rows_of f xs ≡ rows_of g xs
rows_of-agree f g [] same = refl
rows_of-agree f g (x ∷ xs) same = let here = times-append x (x ∷ []) xs in let one = times_one x in
    ap₂ (λ (o : Option (List ℕ)) (l : List (ℕ × List ℕ)). row_at x o ++ l) (same x (omega arith)) (rows_of-agree f g xs (λ y h. let there = times-append y (x ∷ []) xs in same y (omega arith)))

rows_entries-append : (rs qs : List (ℕ × List ℕ)) → rows_entries (rs ++ qs) ≡ rows_entries rs ++ rows_entries qs
rows_entries-append [] qs = refl
rows_entries-append (r ∷ rs) qs = ap (λ (l : List Entry). row_entries r.0 r.1 ++ l) (rows_entries-append rs qs) ∙ sym (append_assoc (row_entries r.0 r.1) (rows_entries rs) (rows_entries qs))

pub entries-append : (row_of : ℕ → Option (List ℕ)) (xs ys : List ℕ) → rows_entries (rows_of row_of (xs ++ ys)) ≡ rows_entries (rows_of row_of xs) ++ rows_entries (rows_of row_of ys)
entries-append row_of xs ys = ap rows_entries (rows_of-append row_of xs ys) ∙ rows_entries-append (rows_of row_of xs) (rows_of row_of ys)

-- lists that are appended in turn
pub onto : {A : Type 0} (before xs ys all : List A) → all ≡ xs ++ ys → (before ++ xs) ++ ys ≡ before ++ all
onto before xs ys all e = append_assoc before xs ys ∙ ap (λ l. before ++ l) (sym e)

pub with_run-with_run : (row_of : ℕ → Option (List ℕ)) (v : View) (xs ys zs xs' ys' zs' : List ℕ) → with_run row_of (with_run row_of v xs ys zs) xs' ys' zs' ≡ with_run row_of v (xs ++ xs') (ys ++ ys') (zs ++ zs')
with_run-with_run row_of v xs ys zs xs' ys' zs' = λ i. record v {
  claimed = append_assoc v.claimed xs xs' i;
  seen = append_assoc v.seen ys ys' i;
  missed = append_assoc v.missed zs zs' i;
  added = onto v.added (rows_entries (rows_of row_of xs)) (rows_entries (rows_of row_of xs')) (rows_entries (rows_of row_of (xs ++ xs'))) (entries-append row_of xs xs') i;
}

pub with_run-none : (row_of : ℕ → Option (List ℕ)) (v : View) → with_run row_of v [] [] [] ≡ v
with_run-none row_of v = λ i. record v { claimed = append-nil v.claimed i; seen = append-nil v.seen i; missed = append-nil v.missed i; added = append-nil v.added i }

-- a number that a look found free, and a run after it
pub with_run-missed : (row_of : ℕ → Option (List ℕ)) (v : View) (n : ℕ) (xs ys zs : List ℕ) → with_run row_of (with_missed v n) xs ys zs ≡ with_run row_of v xs ys (n ∷ zs)
with_run-missed row_of v n xs ys zs = λ i. record v { claimed = v.claimed ++ xs; seen = v.seen ++ ys; missed = append_assoc v.missed (n ∷ []) zs i; added = v.added ++ rows_entries (rows_of row_of xs) }

-- a claimed number without a row, and one with a row
pub with_run-bare : (row_of : ℕ → Option (List ℕ)) (v : View) (n : ℕ) → row_of n ≡ None → with_claimed v n ≡ with_run row_of v (n ∷ []) [] []
with_run-bare row_of v n none = λ i. record v { claimed = v.claimed ++ n ∷ []; seen = sym (append-nil v.seen) i; missed = sym (append-nil v.missed) i; added = (sym (append-nil v.added) ∙ ap (λ (o : Option (List ℕ)). v.added ++ rows_entries (row_at n o ++ [])) (sym none)) i }

pub with_run-row : (row_of : ℕ → Option (List ℕ)) (v : View) (n : ℕ) (row : List ℕ) → row_of n ≡ Some row → with_row (with_claimed v n) n row ≡ with_run row_of v (n ∷ []) [] []
with_run-row row_of v n row is = λ i. record v { claimed = v.claimed ++ n ∷ []; seen = sym (append-nil v.seen) i; missed = sym (append-nil v.missed) i; added = (ap (λ (l : List Entry). v.added ++ l) (sym (append-nil (row_entries n row))) ∙ ap (λ (o : Option (List ℕ)). v.added ++ rows_entries (row_at n o ++ [])) (sym is)) i }

-- an item that says no has no row
pub none_where : (b : Bool) (o : Option (List ℕ)) → (IsTrue b ↔ IsSome o) → b ≡ false → o ≡ None
none_where b None i e = refl
none_where b (Some row) i e = let yes : b ≡ true = i.1 refl in cc
