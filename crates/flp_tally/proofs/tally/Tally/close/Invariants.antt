use Rattle.std.proofs.Common.{◌≡◌, ℕ, ◌<◌, slice_index}
use Rattle.flp_tally.specs.Rows.{total_of}
use Rattle.flp_tally.proofs.tally.Tally.close.Given as goal

abbrev pub invariant-loop-element : goal.invariant-loop-element
invariant-loop-element l = (e : ℕ) → e < l.element → slice_index l.totals e ≡ total_of e l.fn.seat.view.added
