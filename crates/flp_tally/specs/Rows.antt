-- Rows: the entries that one adds, and the totals that entries come to.
use Rattle.std.specs.Prelude.{◌≡◌, ℕ, ◌+◌, ◌*◌, ◌/◌, ◌%◌, ◌^◌, ◌<◌, List, [], ◌∷◌, ◌++◌, length, slice_index, sum_by}
use Rattle.flp_field.specs.Word.{modulus}
use Rattle.flp_tally.specs.declared.view.View.{View}
use Rattle.flp_tally.specs.declared.view.Entry.{Entry}
use Rattle.flp_tally.specs.Views.{amount_in}

-- half of a word: the amount a for the cell c under the number x
abbrev pub half : ℕ → ℕ → ℕ → Entry
half x c a = record { number = x; cell = c; amount = a }

-- the low and the high half of each word, from the element e on
abbrev pub entries_from : ℕ → ℕ → List ℕ → List Entry
entries_from x e [] = []
entries_from x e (w ∷ ws) = half x (2 * e) (w % 2 ^ 32) ∷ (half x (2 * e + 1) (w / 2 ^ 32) ∷ entries_from x (e + 1) ws)

-- the entries of a row under the number x
abbrev pub row_entries : ℕ → List ℕ → List Entry
row_entries x row = entries_from x 0 row

abbrev pub with_row : View → ℕ → List ℕ → View
with_row v x row = record v { added = v.added ++ row_entries x row }

-- the entries of rows, each under its number
abbrev pub rows_entries : List (ℕ × List ℕ) → List Entry
rows_entries [] = []
rows_entries (r ∷ rows) = row_entries r.0 r.1 ++ rows_entries rows

-- what the entries come to at the element e
abbrev pub total_of : ℕ → List Entry → ℕ
total_of e es = (amount_in (2 * e) es + 2 ^ 32 * amount_in (2 * e + 1) es) % modulus

abbrev pub AreTotals : List Entry → List ℕ → Type 0
AreTotals es totals = (e : ℕ) → e < length totals → slice_index totals e ≡ total_of e es

-- the sum of the rows' words at the element e
abbrev pub column_sum : ℕ → List (ℕ × List ℕ) → ℕ
column_sum e rows = sum_by (λ r. slice_index r.1 e) rows

-- each total is the sum of the rows' words modulo the field's modulus, where the entries are those of the rows
abbrev pub AreSums : List Entry → List ℕ → Type 0
AreSums es totals = (rows : List (ℕ × List ℕ)) → es ≡ rows_entries rows → (e : ℕ) → e < length totals → slice_index totals e ≡ column_sum e rows % modulus
