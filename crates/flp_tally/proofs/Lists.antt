-- The lists of a view, counted, after one more number or entry, and after another view's lists.
use Rattle.std.proofs.Common.{◌≡◌, ℕ, ◌+◌, ◌*◌, ◌^◌, ◌<◌, ◌≤◌, ◌≢◌, Bool, true, false, cond, ◌==◌, ◌&&◌, List, [], ◌∷◌, ◌++◌, sym, refl, ap, ap₂, ◌∙◌, subst, arith, eq-eqb, ne_eqb, zero-add}
use Rattle.std.proofs.lemmas.List.Sums.{sum_by-cons, sum_by-append}
use mathlib.Core.Logic.{dite}
use native.Mathlib.Decide.{ℕ_discrete}
use Rattle.std.proofs.lemmas.List.Elements.{All-append}
use Rattle.flp_tally.specs.declared.view.Entry.{Entry}
use Rattle.flp_tally.specs.declared.view.View.{View}
use Rattle.flp_tally.specs.Views.{times, entries_of, amount_in, EntriesFit, Owns, with_claimed, with_entry, joined_view}

abbrev pub one_if : Bool → ℕ
one_if b = cond b 1 0

one_if_le : (b : Bool) → one_if b ≤ 1
one_if_le true = omega arith
one_if_le false = omega arith

pub times-append : (x : ℕ) (xs ys : List ℕ) → times x (xs ++ ys) ≡ times x xs + times x ys
times-append x xs ys = sum_by-append (λ (y : ℕ). cond (y == x) 1 0) xs ys

pub times_same : (x : ℕ) (xs : List ℕ) → times x (xs ++ x ∷ []) ≡ times x xs + 1
times_same x xs = let t = times-append x xs (x ∷ []) in let o : times x (x ∷ []) ≡ one_if (x == x) = zero-add (one_if (x == x)) in let e : one_if (x == x) ≡ 1 = ap one_if (eq-eqb x x refl) in omega arith

pub times_other : (x y : ℕ) (xs : List ℕ) → y ≢ x → times y (xs ++ x ∷ []) ≡ times y xs
times_other x y xs apart = let t = times-append y xs (x ∷ []) in let o : times y (x ∷ []) ≡ one_if (x == y) = zero-add (one_if (x == y)) in let e : one_if (x == y) ≡ 0 = ap one_if (ne_eqb x y (λ e. apart (sym e))) in omega arith

pub times_le : (x y : ℕ) (xs : List ℕ) → times y xs ≤ times y (xs ++ x ∷ [])
times_le x y xs = let t = times-append y xs (x ∷ []) in omega arith

pub entries-append : (x c : ℕ) (es fs : List Entry) → entries_of x c (es ++ fs) ≡ entries_of x c es + entries_of x c fs
entries-append x c es fs = sum_by-append (λ (e : Entry). cond ((e.number == x) && (e.cell == c)) 1 0) es fs

pub entries-cons : (x c : ℕ) (e : Entry) (es : List Entry) → entries_of x c (e ∷ es) ≡ one_if ((e.number == x) && (e.cell == c)) + entries_of x c es
entries-cons x c e es = sum_by-cons (λ (f : Entry). cond ((f.number == x) && (f.cell == c)) 1 0) e es

-- an entry for another cell, or under another number, does not count
pub entries_other : (x c : ℕ) (e : Entry) (es : List Entry) → (e.number ≡ x → e.cell ≢ c) → entries_of x c (e ∷ es) ≡ entries_of x c es
entries_other x c e es apart = let p = entries-cons x c e es in dite (ℕ_discrete e.number x)
    (λ same. let z : one_if ((e.number == x) && (e.cell == c)) ≡ 0 = ap₂ (λ (a b : Bool). one_if (a && b)) (eq-eqb e.number x same) (ne_eqb e.cell c (apart same)) in omega arith)
    (λ ne. let z : one_if ((e.number == x) && (e.cell == c)) ≡ 0 = ap (λ (a : Bool). one_if (a && (e.cell == c))) (ne_eqb e.number x ne) in omega arith)

pub entries_at_most : (x c : ℕ) (e : Entry) (es : List Entry) → entries_of x c (e ∷ es) ≤ entries_of x c es + 1
entries_at_most x c e es = let p = entries-cons x c e es in let h = one_if_le ((e.number == x) && (e.cell == c)) in omega arith

pub amount_here : (c : ℕ) (e : Entry) (es : List Entry) → e.cell ≡ c → amount_in c (e ∷ es) ≡ e.amount + amount_in c es
amount_here c e es here = sum_by-cons (λ (f : Entry). cond (f.cell == c) f.amount 0) e es ∙ ap (λ (b : Bool). cond b e.amount 0 + amount_in c es) (eq-eqb e.cell c here)

pub amount_else : (c : ℕ) (e : Entry) (es : List Entry) → e.cell ≢ c → amount_in c (e ∷ es) ≡ amount_in c es
amount_else c e es else = sum_by-cons (λ (f : Entry). cond (f.cell == c) f.amount 0) e es ∙ (ap (λ (b : Bool). cond b e.amount 0 + amount_in c es) (ne_eqb e.cell c else) ∙ zero-add (amount_in c es))

pub amount-append : (c : ℕ) (es fs : List Entry) → amount_in c (es ++ fs) ≡ amount_in c es + amount_in c fs
amount-append c es fs = sum_by-append (λ (e : Entry). cond (e.cell == c) e.amount 0) es fs

pub fit-append : (m : ℕ) (es fs : List Entry) → EntriesFit m es → EntriesFit m fs → EntriesFit m (es ++ fs)
fit-append m es fs p q = All-append (λ (e : Entry). (e.cell < 2 * m) × (e.amount < 2 ^ 32)) es fs p q

pub owns-with_claimed : (v : View) (x : ℕ) → Owns v → Owns (with_claimed v x)
owns-with_claimed v x o y c = let here = o y c in let t = times_le x y v.claimed in omega arith

pub owns-with_entry : (v : View) (e : Entry) → 1 ≤ times e.number v.claimed → entries_of e.number e.cell v.added ≡ 0 → Owns v → Owns (with_entry v e)
owns-with_entry v e claimed free o x c = let own = o x c in let s = entries-append x c v.added (e ∷ []) in dite (ℕ_discrete e.number x)
    (λ number. dite (ℕ_discrete e.cell c)
    (λ place. let one = entries_at_most x c e [] in let none : entries_of x c v.added ≡ 0 = subst (λ (z : ℕ). entries_of z c v.added ≡ 0) number (subst (λ (z : ℕ). entries_of e.number z v.added ≡ 0) place free) in
    let mine : 1 ≤ times x v.claimed = subst (λ (z : ℕ). 1 ≤ times z v.claimed) number claimed in omega arith)
    (λ ne. let p = entries_other x c e [] (λ h. ne) in omega arith))
    (λ ne. let p = entries_other x c e [] (λ h. absurd (ne h)) in omega arith)

pub owns-joined_view : (v w : View) → Owns v → Owns w → Owns (joined_view v w)
owns-joined_view v w o p x c = let a = o x c in let b = p x c in let s = times-append x v.claimed w.claimed in let t = entries-append x c v.added w.added in omega arith
