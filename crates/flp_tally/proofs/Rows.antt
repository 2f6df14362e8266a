-- The entries of a row, one word more at a time, and the amounts that a row brings to each cell.
use Rattle.std.proofs.Common.{◌≡◌, ℕ, zero, suc, ◌+◌, ◌*◌, ◌/◌, ◌%◌, ◌^◌, ◌<◌, ◌≤◌, List, [], ◌∷◌, ◌++◌, length, take, get_or, sym, refl, ap, ◌∙◌, arith, append_assoc, length-take, add-one}
use Rattle.flp_tally.specs.declared.view.Entry.{Entry}
use Rattle.flp_tally.specs.declared.view.View.{View}
use Rattle.flp_tally.specs.Views.{entries_of, amount_in, NotAdded, with_entry}
use Rattle.flp_tally.specs.Rows.{half, entries_from, row_entries, with_row}
use Rattle.flp_tally.proofs.Lists.{entries-append, entries_other, amount_here, amount_else}

-- both halves of the word w at the element e
abbrev pub halves : ℕ → ℕ → ℕ → List Entry
halves x e w = half x (2 * e) (w % 2 ^ 32) ∷ (half x (2 * e + 1) (w / 2 ^ 32) ∷ [])

pub row_more : (x b : ℕ) (row : List ℕ) (i e : ℕ) → e ≡ b + i → i < length row → entries_from x b (take (suc i) row) ≡ entries_from x b (take i row) ++ halves x e (get_or row i 0)
row_more x b [] i e is h = absurd (omega arith)
row_more x b (w ∷ ws) zero e is h = let same : b ≡ e = omega arith in ap (λ (z : ℕ). halves x z w) same
row_more x b (w ∷ ws) (suc i) e is h = ap (λ (l : List Entry). half x (2 * b) (w % 2 ^ 32) ∷ (half x (2 * b + 1) (w / 2 ^ 32) ∷ l)) (row_more x (b + 1) ws i e (omega arith) (omega arith))

-- a row has no entry for the cells above its own
pub row_above : (x y b c : ℕ) (row : List ℕ) → 2 * (b + length row) ≤ c → entries_of x c (entries_from y b row) ≡ 0
row_above x y b c [] h = refl
row_above x y b c (w ∷ ws) h = entries_other x c (half y (2 * b) (w % 2 ^ 32)) (half y (2 * b + 1) (w / 2 ^ 32) ∷ entries_from y (b + 1) ws) (λ p q. omega arith)
    ∙ (entries_other x c (half y (2 * b + 1) (w / 2 ^ 32)) (entries_from y (b + 1) ws) (λ p q. omega arith) ∙ row_above x y (b + 1) c ws (omega arith))

-- nor for the cells below
amount_below : (x b c : ℕ) (row : List ℕ) → c < 2 * b → amount_in c (entries_from x b row) ≡ 0
amount_below x b c [] h = refl
amount_below x b c (w ∷ ws) h = amount_else c (half x (2 * b) (w % 2 ^ 32)) (half x (2 * b + 1) (w / 2 ^ 32) ∷ entries_from x (b + 1) ws) (λ q. omega arith)
    ∙ (amount_else c (half x (2 * b + 1) (w / 2 ^ 32)) (entries_from x (b + 1) ws) (λ q. omega arith) ∙ amount_below x (b + 1) c ws (omega arith))

pub row_low : (x b : ℕ) (row : List ℕ) (i e : ℕ) → e ≡ b + i → amount_in (2 * e) (entries_from x b row) ≡ get_or row i 0 % 2 ^ 32
row_low x b [] i e is = refl
row_low x b (w ∷ ws) zero e is =
    let here = amount_here (2 * e) (half x (2 * b) (w % 2 ^ 32)) (half x (2 * b + 1) (w / 2 ^ 32) ∷ entries_from x (b + 1) ws) (omega arith) in
    let next = amount_else (2 * e) (half x (2 * b + 1) (w / 2 ^ 32)) (entries_from x (b + 1) ws) (λ q. omega arith) in let rest = amount_below x (b + 1) (2 * e) ws (omega arith) in omega arith
row_low x b (w ∷ ws) (suc i) e is = amount_else (2 * e) (half x (2 * b) (w % 2 ^ 32)) (half x (2 * b + 1) (w / 2 ^ 32) ∷ entries_from x (b + 1) ws) (λ q. omega arith)
    ∙ (amount_else (2 * e) (half x (2 * b + 1) (w / 2 ^ 32)) (entries_from x (b + 1) ws) (λ q. omega arith) ∙ row_low x (b + 1) ws i e (omega arith))

pub row_high : (x b : ℕ) (row : List ℕ) (i e : ℕ) → e ≡ b + i → amount_in (2 * e + 1) (entries_from x b row) ≡ get_or row i 0 / 2 ^ 32
row_high x b [] i e is = refl
row_high x b (w ∷ ws) zero e is =
    let first = amount_else (2 * e + 1) (half x (2 * b) (w % 2 ^ 32)) (half x (2 * b + 1) (w / 2 ^ 32) ∷ entries_from x (b + 1) ws) (λ q. omega arith) in
    let here = amount_here (2 * e + 1) (half x (2 * b + 1) (w / 2 ^ 32)) (entries_from x (b + 1) ws) (omega arith) in let rest = amount_below x (b + 1) (2 * e + 1) ws (omega arith) in omega arith
row_high x b (w ∷ ws) (suc i) e is = amount_else (2 * e + 1) (half x (2 * b) (w % 2 ^ 32)) (half x (2 * b + 1) (w / 2 ^ 32) ∷ entries_from x (b + 1) ws) (λ q. omega arith)
    ∙ (amount_else (2 * e + 1) (half x (2 * b + 1) (w / 2 ^ 32)) (entries_from x (b + 1) ws) (λ q. omega arith) ∙ row_high x (b + 1) ws i e (omega arith))

-- what a view with the first i words of a row under x has for x from the cell 2 * i on
pub free_before : (v : View) (x : ℕ) (row : List ℕ) (i c : ℕ) → NotAdded x v → 2 * i ≤ c → entries_of x c (with_row v x (take i row)).added ≡ 0
free_before v x row i c none h = let s = entries-append x c v.added (row_entries x (take i row)) in let a = none c in let len = length-take i row in let b = row_above x x 0 c (take i row) (omega arith) in omega arith

pub free_between : (v : View) (x : ℕ) (row : List ℕ) (i a : ℕ) → NotAdded x v → entries_of x (2 * i + 1) (with_entry (with_row v x (take i row)) (half x (2 * i) a)).added ≡ 0
free_between v x row i a none = let s = entries-append x (2 * i + 1) (with_row v x (take i row)).added (half x (2 * i) a ∷ []) in let b = free_before v x row i (2 * i + 1) none (omega arith) in
    let o = entries_other x (2 * i + 1) (half x (2 * i) a) [] (λ p q. omega arith) in omega arith

pub with_row_more : (v : View) (x : ℕ) (row : List ℕ) (i w : ℕ) → i < length row → w ≡ get_or row i 0
    → with_entry (with_entry (with_row v x (take i row)) (half x (2 * i) (w % 2 ^ 32))) (half x (2 * i + 1) (w / 2 ^ 32)) ≡ with_row v x (take (i + 1) row)
with_row_more v x row i w h is = ap (λ (l : List Entry). record v { added = l })
    (append_assoc (v.added ++ row_entries x (take i row)) (half x (2 * i) (w % 2 ^ 32) ∷ []) (half x (2 * i + 1) (w / 2 ^ 32) ∷ [])
    ∙ (append_assoc v.added (row_entries x (take i row)) (halves x i w)
    ∙ ap (λ (l : List Entry). v.added ++ l) (ap (λ (z : ℕ). row_entries x (take i row) ++ halves x i z) is ∙ (sym (row_more x 0 row i i (omega arith) h) ∙ ap (λ (z : ℕ). row_entries x (take z row)) (sym (add-one i))))))
