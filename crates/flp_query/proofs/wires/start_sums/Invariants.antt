use Rattle.std.proofs.Common.{ℕ, ◌≡◌, ◌*◌, ◌<◌, ◌≤◌, get_or}
use Rattle.flp_query.specs.Wires.{product_bound}
use Rattle.flp_query.proofs.wires.start_sums.Given as goal

abbrev pub invariant-loop-j : goal.invariant-loop-j
invariant-loop-j l = record {
  sums : (i : ℕ) → i < l.j → get_or l.sums i 0 ≡ l.weight * get_or l.seeds i 0;
  below : (i : ℕ) → i < l.j → get_or l.sums i 0 ≤ product_bound;
}
