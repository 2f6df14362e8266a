use Rattle.std.proofs.Common.{ℕ, ◌≡◌, ◌+◌, ◌*◌, ◌%◌, ◌^◌, ◌<◌, ◌≤◌, get_or}
use Rattle.flp_field.specs.Word.{modulus}
use Rattle.flp_field.proofs.Congruence.{Same}
use Rattle.flp_ntt.proofs.levels.butterflies.Given as goal

-- the places before k are done, and the others are as they were
abbrev pub invariant-loop-k : goal.invariant-loop-k
invariant-loop-k l = record {
  twiddle : l.twiddle ≡ l.root ^ l.k % modulus;
  sums : (j : ℕ) → j < l.k → get_or l.low j 0 ≡ (get_or l.fn.low j 0 + get_or l.fn.high j 0) % modulus;
  turned : (j : ℕ) → j < l.k
      → Same (get_or l.high j 0 + l.root ^ j * get_or l.fn.high j 0) (l.root ^ j * get_or l.fn.low j 0);
  low_rest : (j : ℕ) → l.k ≤ j → get_or l.low j 0 ≡ get_or l.fn.low j 0;
  high_rest : (j : ℕ) → l.k ≤ j → get_or l.high j 0 ≡ get_or l.fn.high j 0;
}
