use Rattle.std.proofs.Common.{◌≡◌, take}
use Rattle.flp_tally.specs.Rows.{with_row}
use Rattle.flp_tally.proofs.tally.Tally.add.Given as goal

abbrev pub invariant-loop-element : goal.invariant-loop-element
invariant-loop-element l = (l.seat.table ≡ l.initial.seat.table) × (l.seat.view ≡ with_row l.initial.seat.view l.number (take l.element l.row))
