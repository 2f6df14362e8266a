-- A view, which is what one seat knows. First how its lists are counted, then a view after each kind of step.
use Rattle.std.specs.Prelude.{◌≡◌, ℕ, ◌+◌, ◌-◌, ◌*◌, ◌/◌, ◌^◌, ◌<◌, ◌≤◌, ◌==◌, ◌&&◌, cond, List, [], ◌∷◌, ◌++◌, All, sum_by, count_by}
use Rattle.flp_tally.specs.declared.view.View.{View}
use Rattle.flp_tally.specs.declared.view.Entry.{Entry}

-- how often the number x stands in a list
abbrev pub times : ℕ → List ℕ → ℕ
times x xs = count_by (λ y. y == x) xs

abbrev pub NoneTwice : List ℕ → Type 0
NoneTwice xs = (x : ℕ) → times x xs ≤ 1

-- how many entries are for the number x and the cell c
abbrev pub entries_of : ℕ → ℕ → List Entry → ℕ
entries_of x c es = count_by (λ e. (e.number == x) && (e.cell == c)) es

-- the amounts of all entries for the cell c, added up
abbrev pub amount_in : ℕ → List Entry → ℕ
amount_in c es = sum_by (λ e. cond (e.cell == c) e.amount 0) es

-- Of a number and a cell there are at most as many entries as the number stands in claimed: none of a number that is not
-- claimed, and at most one of a number that is claimed once.
abbrev pub Owns : View → Type 0
Owns v = (x c : ℕ) → entries_of x c v.added ≤ times x v.claimed

-- the number x has no entry
abbrev pub NotAdded : ℕ → View → Type 0
NotAdded x v = (c : ℕ) → entries_of x c v.added ≡ 0

-- What an entry needs to join added: a number that the view has claimed and not yet added to the entry's cell, and an amount of 32 bits.
pub record MayAdd (m : ℕ) (v : View) (e : Entry) : Type 0 where
  pub cell : e.cell < 2 * m
  pub amount : e.amount < 2 ^ 32
  pub claimed : 1 ≤ times e.number v.claimed
  pub free : entries_of e.number e.cell v.added ≡ 0

-- Each entry is for the low or the high half of one of the m elements, and has 32 bits.
abbrev pub EntriesFit : ℕ → List Entry → Type 0
EntriesFit m es = All (λ e. (e.cell < 2 * m) × (e.amount < 2 ^ 32)) es

abbrev pub IsIdle : View → Type 0
IsIdle v = (v.claimed ≡ []) × (v.seen ≡ []) × (v.missed ≡ []) × (v.added ≡ [])

-- each number that the view has seen stands in its own claimed
abbrev pub SeenIsClaimed : View → Type 0
SeenIsClaimed v = (x : ℕ) → 1 ≤ times x v.seen → 1 ≤ times x v.claimed

-- the view of the first seat
abbrev pub first_view : ℕ → ℕ → ℕ → View
first_view full reports elements = record { weight = full; full = full; reports = reports; elements = elements; claimed = []; seen = []; missed = []; added = [] }

abbrev pub with_claimed : View → ℕ → View
with_claimed v x = record v { claimed = v.claimed ++ x ∷ [] }

abbrev pub with_seen : View → ℕ → View
with_seen v x = record v { seen = v.seen ++ x ∷ [] }

abbrev pub with_missed : View → ℕ → View
with_missed v x = record v { missed = v.missed ++ x ∷ [] }

abbrev pub with_entry : View → Entry → View
with_entry v e = record v { added = v.added ++ e ∷ [] }

abbrev pub with_weight : View → ℕ → View
with_weight v w = record v { weight = w }

-- the smaller half of the weight goes to the new seat
abbrev pub kept_half : View → View
kept_half v = with_weight v (v.weight - v.weight / 2)

abbrev pub fresh : View → ℕ → View
fresh v w = record { weight = w; full = v.full; reports = v.reports; elements = v.elements; claimed = []; seen = []; missed = []; added = [] }

abbrev pub given_half : View → View
given_half v = fresh v (v.weight / 2)

abbrev pub joined_view : View → View → View
joined_view v w = record { weight = v.weight + w.weight; full = v.full; reports = v.reports; elements = v.elements; claimed = v.claimed ++ w.claimed; seen = v.seen ++ w.seen; missed = v.missed ++ w.missed; added = v.added ++ w.added }

-- what is left of a view that was joined away
abbrev pub spent_view : View
spent_view = record { weight = 0; full = 0; reports = 0; elements = 0; claimed = []; seen = []; missed = []; added = [] }
