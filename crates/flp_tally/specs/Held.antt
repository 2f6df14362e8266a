-- What contracts see of a seat and of a tally, and which seats are a tally's.
use Rattle.std.specs.Prelude.{◌≡◌, ℕ}
use Rattle.atomic_table.specs.Seated.{TableId}
use Rattle.flp_tally.specs.declared.view.View.{View}

-- a seat: the table that it belongs to, and what it knows
pub record Held : Type 0 where
  pub table : TableId
  pub view : View

-- a tally: its table, the full weight, and the numbers of reports and of elements
pub record Board : Type 0 where
  pub table : TableId
  pub full : ℕ
  pub reports : ℕ
  pub elements : ℕ

-- the seat belongs to the tally, and its view keeps the tally's numbers
abbrev pub IsSeatOf : Board → Held → Type 0
IsSeatOf t s = (s.table ≡ t.table) × (s.view.full ≡ t.full) × (s.view.reports ≡ t.reports) × (s.view.elements ≡ t.elements)
