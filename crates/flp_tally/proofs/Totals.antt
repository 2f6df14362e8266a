-- What a tally's cells come to at its end.
use Rattle.std.proofs.Common.{◌≡◌, ℕ, zero, suc, ◌+◌, ◌*◌, ◌%◌, ◌^◌, ◌<◌, ◌≤◌, List, [], ◌∷◌, length, get_or, sym, refl, ap, ◌∙◌, arith, subst, set, get_or-set_same, get_or-set_other}
use mathlib.Core.Logic.{dite}
use native.Mathlib.Decide.{ℕ_discrete}
use Rattle.std.proofs.lemmas.List.Sums.{sum_by-cons}
use mathlib.Core.Option.{some, some-injective, some-ne-none}
use lib.ListN.{get_elem?}
use Rattle.flp_field.specs.Word.{modulus}
use Rattle.flp_tally.specs.declared.view.View.{View}
use Rattle.flp_tally.specs.declared.view.Entry.{Entry}
use Rattle.flp_tally.specs.Views.{amount_in}
use Rattle.flp_tally.specs.Rule.{cell_word, Tallies}
use Rattle.flp_tally.specs.Rows.{row_entries, rows_entries, column_sum, AreTotals, AreSums}
use Rattle.flp_tally.proofs.Sums.{sum_only}
use Rattle.flp_tally.proofs.Lists.{amount-append}
use Rattle.flp_tally.proofs.Rows.{row_low, row_high}

-- who has the full weight has all entries of each cell
pub closes : (n r m : ℕ) (ws : List ℕ) (vs : List View) (id : ℕ) (v : View) → Tallies n r m ws vs → get_elem? vs id ≡ some v → 1 ≤ v.weight → v.weight ≡ v.full → (c : ℕ) → c < 2 * m → get_or ws (cell_word r c) 0 ≡ amount_in c v.added
closes n r m ws vs id v k at some_weight full c h = let is = ((k.each id v at).numbers some_weight).0 in let all = k.weights in
    k.cells c h ∙ sum_only (λ (u : View). u.weight) (λ (u : View). amount_in c u.added) vs id v at (omega arith) (λ j u e none. ap (amount_in c) ((k.each j u e).idle none).3)

pub read : (l : List ℕ) (i a : ℕ) → get_elem? l i ≡ some a → get_or l i 0 ≡ a
read [] i a e = absurd (some-ne-none a (sym e))
read (x ∷ xs) zero a e = some-injective x a e
read (x ∷ xs) (suc i) a e = read xs i a e

-- both halves of all rows at one element, put together
rows_total : (e : ℕ) (rows : List (ℕ × List ℕ)) → amount_in (2 * e) (rows_entries rows) + 2 ^ 32 * amount_in (2 * e + 1) (rows_entries rows) ≡ column_sum e rows
rows_total e [] = refl
rows_total e (r ∷ rows) = let rest = rows_total e rows in let low = amount-append (2 * e) (row_entries r.0 r.1) (rows_entries rows) in let high = amount-append (2 * e + 1) (row_entries r.0 r.1) (rows_entries rows) in
    let l = row_low r.0 0 r.1 e e (omega arith) in let h = row_high r.0 0 r.1 e e (omega arith) in let c = sum_by-cons (λ (q : ℕ × List ℕ). get_or q.1 e 0) r rows in omega arith

pub sums : (es : List Entry) (totals : List ℕ) → AreTotals es totals → AreSums es totals
sums es totals are rows is e h = are e h ∙ ap (λ (z : ℕ). z % modulus) (ap (λ (l : List Entry). amount_in (2 * e) l + 2 ^ 32 * amount_in (2 * e + 1) l) is ∙ rows_total e rows)

-- one total more
pub totals_more : (f : ℕ → ℕ) (totals : List ℕ) (i t : ℕ) → i < length totals → ((e : ℕ) → e < i → get_or totals e 0 ≡ f e) → t ≡ f i → (e : ℕ) → e < i + 1 → get_or (set totals i t) e 0 ≡ f e
totals_more f totals i t inside before is e h = dite (ℕ_discrete e i)
    (λ here. subst (λ (z : ℕ). get_or (set totals i t) z 0 ≡ f z) (sym here) (get_or-set_same totals i t 0 inside ∙ is))
    (λ ne. get_or-set_other totals i e t 0 ne ∙ before e (omega arith))

-- a word of the closed table at the place of the cell c
pub closed_word : (n r m : ℕ) (ws closed : List ℕ) (vs : List View) (id : ℕ) (v : View) → Tallies n r m ws vs → get_elem? vs id ≡ some v → 1 ≤ v.weight → v.weight ≡ v.full → ws ≡ closed
    → (c i a : ℕ) → c < 2 * m → i ≡ cell_word r c → get_elem? closed i ≡ some a → a ≡ amount_in c v.added
closed_word n r m ws closed vs id v k at some_weight full same c i a h is got = sym (read closed i a got) ∙ (ap (λ (l : List ℕ). get_or l i 0) (sym same) ∙ (ap (λ (z : ℕ). get_or ws z 0) is ∙ closes n r m ws vs id v k at some_weight full c h))
