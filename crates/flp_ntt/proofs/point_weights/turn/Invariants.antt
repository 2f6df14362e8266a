use Rattle.std.proofs.Common.{ℕ, ◌≡◌, ◌+◌, ◌-◌, ◌*◌, ◌%◌, ◌^◌, ◌<◌, ◌≤◌, get_or}
use Rattle.flp_field.specs.Word.{modulus}
use Rattle.flp_field.proofs.Congruence.{Same}
use Rattle.flp_ntt.proofs.point_weights.turn.Given as goal

-- the places before k are done, and the others are as they were
abbrev pub invariant-loop-k : goal.invariant-loop-k
invariant-loop-k l = record {
  twist : Same l.twist (l.fn.point * l.root ^ l.k);
  sums : (j : ℕ) → j < l.k
      → get_or l.low j 0 ≡ (get_or l.fn.low j 0 + (get_or l.fn.low j 0 * (l.fn.point * l.root ^ j)) % modulus) % modulus;
  differences : (j : ℕ) → j < l.k
      → get_or l.high j 0
      ≡ (get_or l.fn.low j 0 + (modulus - (get_or l.fn.low j 0 * (l.fn.point * l.root ^ j)) % modulus)) % modulus;
  rest : (j : ℕ) → l.k ≤ j → get_or l.low j 0 ≡ get_or l.fn.low j 0;
}
