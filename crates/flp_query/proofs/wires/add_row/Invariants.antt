use Rattle.std.proofs.Common.{ℕ, ◌≡◌, ◌≤◌, get_or}
use Rattle.flp_query.specs.Wires.{HasRow}
use Rattle.flp_query.proofs.wires.add_row.Given as goal

-- so many sums grew, and the others are as they were
abbrev pub invariant-loop-j : goal.invariant-loop-j
invariant-loop-j l = record {
  grown : HasRow l.j l.weight l.row l.fn.sums l.sums;
  rest : (i : ℕ) → l.j ≤ i → get_or l.sums i 0 ≡ get_or l.fn.sums i 0;
}
