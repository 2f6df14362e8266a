-- Sums over numbers that are a range's, in whatever order they stand.
use Rattle.std.proofs.Common.{◌≡◌, ℕ, zero, suc, ◌+◌, ◌-◌, ◌<◌, ◌≤◌, ◌≢◌, Bool, cond, ◌==◌, Option, Some, None, List, [], ◌∷◌, get_or, sum_by, sym, refl, ap, ◌∙◌, ⊎_elim, arith, eq-eqb, ne_eqb, zero-add}
use Rattle.std.specs.List.{range_with_len}
use Rattle.std.proofs.lemmas.List.Sums.{sum_by-cons, sum_by-append}
use mathlib.Core.Logic.{dite}
use native.Mathlib.Decide.{ℕ_discrete}
use Rattle.flp_tally.specs.Views.{times}
use Rattle.flp_tally.specs.Rows.{column_sum}
use Rattle.flp_pool.specs.Work.{row_at, rows_of}
use Rattle.flp_pool.specs.Laws.{RangesFollow, SumsOfRange, word_of, RowSums}
use Rattle.flp_pool.proofs.Once.{once_where, once_in, once_parts}
use Rattle.flp_pool.proofs.Lists.{times-append}

-- the number c where y is x, and 0 elsewhere
abbrev only_at : ℕ → ℕ → ℕ → ℕ
only_at y c x = cond (y == x) c 0

at_same : (y x c : ℕ) → y ≡ x → only_at y c x ≡ c
at_same y x c e = ap (λ (b : Bool). cond b c 0) (eq-eqb y x e)

at_other : (y x c : ℕ) → y ≢ x → only_at y c x ≡ 0
at_other y x c ne = ap (λ (b : Bool). cond b c 0) (ne_eqb y x ne)

sum_none : (g : ℕ → ℕ) (xs : List ℕ) → ((x : ℕ) → g x ≡ 0) → sum_by g xs ≡ 0
sum_none g [] none = refl
sum_none g (x ∷ xs) none = let r = sum_none g xs none in let h = none x in let c = sum_by-cons g x xs in omega arith

sum_same : (g h : ℕ → ℕ) (lo n : ℕ) → ((x : ℕ) → lo ≤ x → x < lo + n → g x ≡ h x) → sum_by g (range_with_len lo n) ≡ sum_by h (range_with_len lo n)
sum_same g h lo zero same = refl
sum_same g h lo (suc n) same = let r = sum_same g h (lo + 1) n (λ x a b. same x (omega arith) (omega arith)) in let here = same lo (omega arith) (omega arith) in
    let c = sum_by-cons g lo (range_with_len (lo + 1) n) in let d = sum_by-cons h lo (range_with_len (lo + 1) n) in omega arith

sum_both : (g h : ℕ → ℕ) (xs : List ℕ) → sum_by (λ x. g x + h x) xs ≡ sum_by g xs + sum_by h xs
sum_both g h [] = refl
sum_both g h (x ∷ xs) = let r = sum_both g h xs in let a = sum_by-cons (λ (y : ℕ). g y + h y) x xs in let b = sum_by-cons g x xs in let c = sum_by-cons h x xs in omega arith

below_none : (y c lo n : ℕ) → y < lo → sum_by (only_at y c) (range_with_len lo n) ≡ 0
below_none y c lo zero h = refl
below_none y c lo (suc n) h = let r = below_none y c (lo + 1) n (omega arith) in let z = at_other y lo c (λ e. omega arith) in let s = sum_by-cons (only_at y c) lo (range_with_len (lo + 1) n) in omega arith

at_once : (y c lo n : ℕ) → lo ≤ y → y < lo + n → sum_by (only_at y c) (range_with_len lo n) ≡ c
at_once y c lo zero a b = absurd (omega arith)
at_once y c lo (suc n) a b = let s = sum_by-cons (only_at y c) lo (range_with_len (lo + 1) n) in dite (ℕ_discrete y lo)
    (λ e. let here = at_same y lo c e in let r = below_none y c (lo + 1) n (omega arith) in omega arith)
    (λ ne. let here = at_other y lo c ne in let r = at_once y c (lo + 1) n (omega arith) (omega arith) in omega arith)

-- the part of a sum that the number x brings
abbrev part_at : (ℕ → ℕ) → List ℕ → ℕ → ℕ
part_at f xs x = sum_by (λ y. only_at y (f y) x) xs

times-cons : (x y : ℕ) (ys : List ℕ) → times x (y ∷ ys) ≡ only_at y 1 x + times x ys
times-cons x y ys = sum_by-cons (λ (z : ℕ). cond (z == x) 1 0) y ys

-- all parts together
parts_sum : (f : ℕ → ℕ) (lo n : ℕ) (xs : List ℕ) → ((y : ℕ) → 1 ≤ times y xs → (lo ≤ y) × (y < lo + n)) → sum_by f xs ≡ sum_by (part_at f xs) (range_with_len lo n)
parts_sum f lo n [] inside = sym (sum_none (λ (x : ℕ). 0) (range_with_len lo n) (λ x. refl))
parts_sum f lo n (y ∷ ys) inside =
    let rest = parts_sum f lo n ys (λ z h. let c = times-cons z y ys in inside z (omega arith)) in
    let here = inside y (let c = times-cons y y ys in let o = at_same y y 1 refl in omega arith) in
    let one = at_once y (f y) lo n here.0 here.1 in
    let same = sum_same (part_at f (y ∷ ys)) (λ x. only_at y (f y) x + part_at f ys x) lo n (λ x a b. sum_by-cons (λ (z : ℕ). only_at z (f z) x) y ys) in
    let both = sum_both (only_at y (f y)) (part_at f ys) (range_with_len lo n) in let c = sum_by-cons f y ys in omega arith

-- what a number brings that stands there no time or once
part_none : (f : ℕ → ℕ) (xs : List ℕ) (x : ℕ) → times x xs ≡ 0 → part_at f xs x ≡ 0
part_none f [] x none = refl
part_none f (y ∷ ys) x none = let c = times-cons x y ys in let s = sum_by-cons (λ (z : ℕ). only_at z (f z) x) y ys in let r = part_none f ys x (omega arith) in dite (ℕ_discrete y x)
    (λ e. let o = at_same y x 1 e in absurd (omega arith))
    (λ ne. let z = at_other y x (f y) ne in omega arith)

part_once : (f : ℕ → ℕ) (xs : List ℕ) (x : ℕ) → times x xs ≡ 1 → part_at f xs x ≡ f x
part_once f [] x one = absurd (omega arith)
part_once f (y ∷ ys) x one = let c = times-cons x y ys in let s = sum_by-cons (λ (z : ℕ). only_at z (f z) x) y ys in dite (ℕ_discrete y x)
    (λ e. let o = at_same y x 1 e in let r = part_none f ys x (omega arith) in let h = at_same y x (f y) e in let same = ap f e in omega arith)
    (λ ne. let o = at_other y x 1 ne in let r = part_once f ys x (omega arith) in let z = at_other y x (f y) ne in omega arith)

pub sums_of_range : SumsOfRange
sums_of_range f lo hi xs each =
    let inside = λ (y : ℕ) (h : 1 ≤ times y xs). let e = each y in ⊎_elim {C = (lo ≤ y) × (y < lo + (hi - lo))} (λ t. let a = t.0 in let b = t.1 in (a, omega arith)) (λ out. absurd (omega arith)) (once_where lo hi y) in
    parts_sum f lo (hi - lo) xs inside ∙ sum_same (part_at f xs) f lo (hi - lo) (λ x a b. part_once f xs x (each x ∙ once_in lo hi x a (omega arith)))

row_word : (e x : ℕ) (o : Option (List ℕ)) → column_sum e (row_at x o) ≡ word_of o e
row_word e x None = refl
row_word e x (Some row) = zero-add (get_or row e 0)

column_rows : (row_of : ℕ → Option (List ℕ)) (e : ℕ) (xs : List ℕ) → column_sum e (rows_of row_of xs) ≡ sum_by (λ x. word_of (row_of x) e) xs
column_rows row_of e [] = refl
column_rows row_of e (x ∷ xs) = let rest = column_rows row_of e xs in let a = sum_by-append (λ (r : ℕ × List ℕ). get_or r.1 e 0) (row_at x (row_of x)) (rows_of row_of xs) in
    let s = sum_by-cons (λ (y : ℕ). word_of (row_of y) e) x xs in let h = row_word e x (row_of x) in omega arith

pub row_sums : RowSums
row_sums row_of lo hi xs e each = column_rows row_of e xs ∙ sums_of_range (λ x. word_of (row_of x) e) lo hi xs each

pub follow : RangesFollow
follow a b c xs ys p q one two x = let s = times-append x xs ys in let i = one x in let j = two x in let o = once_parts a b c x p q in omega arith
