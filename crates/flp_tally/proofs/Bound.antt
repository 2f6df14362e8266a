-- No cell wraps: the entries for it have different numbers below the number of reports, and each is below 2^32.
use Rattle.std.proofs.Common.{◌≡◌, ℕ, zero, suc, ◌+◌, ◌*◌, ◌^◌, ◌<◌, ◌≤◌, Bool, true, false, cond, ◌==◌, ◌&&◌, List, [], ◌∷◌, sum_by, count_by, sym, refl, ap, ap₂, ◌∙◌, arith, eq-eqb, ne_eqb}
use Rattle.std.proofs.lemmas.List.Sums.{sum_by-cons}
use mathlib.Core.Logic.{dite}
use mathlib.Core.Option.{some}
use native.Mathlib.Decide.{ℕ_discrete, dec_le}
use lib.ListN.{get_elem?}
use Rattle.flp_tally.specs.declared.view.View.{View}
use Rattle.flp_tally.specs.declared.view.Entry.{Entry}
use Rattle.flp_tally.specs.Views.{times, entries_of, amount_in, Owns, EntriesFit}
use Rattle.flp_tally.specs.Rule.{claims_of, sum_in}
use Rattle.flp_tally.proofs.Sums.{sum_le, at_le}
use Rattle.flp_tally.proofs.Lists.{one_if, entries-cons}

-- the sum of f below k
abbrev upto : (ℕ → ℕ) → ℕ → ℕ
upto f zero = 0
upto f (suc k) = upto f k + f k

upto-add : (f g : ℕ → ℕ) (k : ℕ) → upto (λ x. f x + g x) k ≡ upto f k + upto g k
upto-add f g zero = refl
upto-add f g (suc k) = let r = upto-add f g k in omega arith

upto-zero : (f : ℕ → ℕ) (k : ℕ) → ((x : ℕ) → x < k → f x ≡ 0) → upto f k ≡ 0
upto-zero f zero none = refl
upto-zero f (suc k) none = let r = upto-zero f k (λ x h. none x (omega arith)) in let here = none k (omega arith) in omega arith

upto-same : (f g : ℕ → ℕ) (k : ℕ) → ((x : ℕ) → f x ≡ g x) → upto f k ≡ upto g k
upto-same f g zero same = refl
upto-same f g (suc k) same = ap₂ (λ (a b : ℕ). a + b) (upto-same f g k same) (same k)

upto_le : (f : ℕ → ℕ) (k : ℕ) → ((x : ℕ) → f x ≤ 1) → upto f k ≤ k
upto_le f zero small = omega arith
upto_le f (suc k) small = let r = upto_le f k small in let here = small k in omega arith

upto_one : (x k : ℕ) → x < k → upto (λ y. one_if (x == y)) k ≡ 1
upto_one x zero h = absurd (omega arith)
upto_one x (suc k) h = dite (ℕ_discrete x k)
    (λ e. let r = upto-zero (λ (y : ℕ). one_if (x == y)) k (λ y l. ap one_if (ne_eqb x y (λ q. omega arith))) in let here : one_if (x == k) ≡ 1 = ap one_if (eq-eqb x k e) in omega arith)
    (λ ne. let r = upto_one x k (omega arith) in let here : one_if (x == k) ≡ 0 = ap one_if (ne_eqb x k ne) in omega arith)

and-true : (a : Bool) → (a && true) ≡ a
and-true true = refl
and-true false = refl

and-false : (a : Bool) → (a && false) ≡ false
and-false true = refl
and-false false = refl

-- the first entry, counted once under its number where it is for the cell
head_counted : (x k : ℕ) (b : Bool) → (b ≡ true → x < k) → upto (λ y. one_if ((x == y) && b)) k ≡ one_if b
head_counted x k true h = upto-same (λ y. one_if ((x == y) && true)) (λ y. one_if (x == y)) k (λ y. ap one_if (and-true (x == y))) ∙ upto_one x k (h refl)
head_counted x k false h = upto-zero (λ y. one_if ((x == y) && false)) k (λ y l. ap one_if (and-false (x == y)))

-- how many entries are for the cell c
abbrev cell_count : ℕ → List Entry → ℕ
cell_count c es = count_by (λ e. e.cell == c) es

counted : (c k : ℕ) (es : List Entry) → ((x : ℕ) → k ≤ x → entries_of x c es ≡ 0) → cell_count c es ≡ upto (λ x. entries_of x c es) k
counted c k [] none = sym (upto-zero (λ x. 0) k (λ x h. refl))
counted c k (e ∷ es) none = let few = λ (x : ℕ) (h : k ≤ x). let n = none x h in let p = entries-cons x c e es in let z : entries_of x c es ≡ 0 = omega arith in z in
    let rest = counted c k es few in
    let inside = λ (b : e.cell == c ≡ true). dite (dec_le k e.number)
    (λ far. let n = none e.number far in let p = entries-cons e.number c e es in let here : one_if ((e.number == e.number) && (e.cell == c)) ≡ 1 = ap₂ (λ (a d : Bool). one_if (a && d)) (eq-eqb e.number e.number refl) b in let out : e.number < k = absurd (omega arith) in out)
    (λ near. let out : e.number < k = omega arith in out) in
    let head = head_counted e.number k (e.cell == c) inside in
    let split = upto-same (λ x. entries_of x c (e ∷ es)) (λ x. one_if ((e.number == x) && (e.cell == c)) + entries_of x c es) k (λ x. entries-cons x c e es)
    ∙ upto-add (λ x. one_if ((e.number == x) && (e.cell == c))) (λ x. entries_of x c es) k in
    let p : cell_count c (e ∷ es) ≡ one_if (e.cell == c) + cell_count c es = sum_by-cons (λ (f : Entry). cond (f.cell == c) 1 0) e es in omega arith

all_counted : (c k : ℕ) (vs : List View) → ((i : ℕ) (v : View) → get_elem? vs i ≡ some v → (x : ℕ) → k ≤ x → entries_of x c v.added ≡ 0)
    → sum_by (λ v. cell_count c v.added) vs ≡ upto (λ x. sum_by (λ v. entries_of x c v.added) vs) k
all_counted c k [] none = sym (upto-zero (λ x. 0) k (λ x h. refl))
all_counted c k (v ∷ vs) none = let rest = all_counted c k vs (λ i. none (suc i)) in let head = counted c k v.added (none 0 v refl) in
    let split = upto-same (λ x. sum_by (λ (u : View). entries_of x c u.added) (v ∷ vs)) (λ x. entries_of x c v.added + sum_by (λ (u : View). entries_of x c u.added) vs) k (λ x. sum_by-cons (λ (u : View). entries_of x c u.added) v vs)
    ∙ upto-add (λ x. entries_of x c v.added) (λ x. sum_by (λ (u : View). entries_of x c u.added) vs) k in
    let p = sum_by-cons (λ (u : View). cell_count c u.added) v vs in omega arith

scaled : (b : Bool) (a : ℕ) → a < 2 ^ 32 → cond b a 0 ≤ 4294967295 * one_if b
scaled true a h = omega arith
scaled false a h = omega arith

amount_le : (c m : ℕ) (es : List Entry) → EntriesFit m es → amount_in c es ≤ 4294967295 * cell_count c es
amount_le c m [] fit = omega arith
amount_le c m (e ∷ es) fit = let rest = amount_le c m es (λ k d h. fit (suc k) d (omega arith)) in let here = (fit 0 e (omega arith)).1 in let s = scaled (e.cell == c) e.amount here in
    let p = sum_by-cons (λ (f : Entry). cond (f.cell == c) f.amount 0) e es in let q : cell_count c (e ∷ es) ≡ one_if (e.cell == c) + cell_count c es = sum_by-cons (λ (f : Entry). cond (f.cell == c) 1 0) e es in omega arith

one-le : (f g : View → ℕ) (vs : List View) → ((i : ℕ) (v : View) → get_elem? vs i ≡ some v → f v ≤ g v) → sum_by f vs ≤ sum_by g vs
one-le f g vs le = let s = sum_le f g 1 vs (λ i v at. let h = le i v at in omega arith) in omega arith

-- what a cell's entries come to has 64 bits
pub cell_fits : (r m c : ℕ) (vs : List View) → r < 2 ^ 32 → ((i : ℕ) (v : View) → get_elem? vs i ≡ some v → Owns v × EntriesFit m v.added) → ((x : ℕ) → claims_of x vs ≤ 1) → ((x : ℕ) → r ≤ x → claims_of x vs ≡ 0) → sum_in c vs < 2 ^ 64
cell_fits r m c vs few each once beyond =
    let of_number = λ (x : ℕ). one-le (λ (v : View). entries_of x c v.added) (λ (v : View). times x v.claimed) vs (λ i v at. (each i v at).0 x c) in
    let none = λ (i : ℕ) (v : View) (at : get_elem? vs i ≡ some v) (x : ℕ) (h : r ≤ x). let le = at_le (λ (u : View). times x u.claimed) vs i v at in let no = beyond x h in let own = (each i v at).0 x c in let z : entries_of x c v.added ≡ 0 = omega arith in z in
    let all = all_counted c r vs none in
    let short = upto_le (λ x. sum_by (λ (v : View). entries_of x c v.added) vs) r (λ x. let le = of_number x in let o = once x in omega arith) in
    let s = sum_le (λ (v : View). amount_in c v.added) (λ (v : View). cell_count c v.added) 4294967295 vs (λ i v at. amount_le c m v.added (each i v at).1) in omega arith
