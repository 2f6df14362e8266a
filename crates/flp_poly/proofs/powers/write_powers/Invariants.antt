use Rattle.std.proofs.Common.{ℕ, ◌≡◌, ◌%◌, ◌^◌, ◌<◌, get_or}
use Rattle.flp_field.specs.Word.{modulus}
use Rattle.flp_poly.proofs.powers.write_powers.Given as goal

abbrev pub invariant-loop-k : goal.invariant-loop-k
invariant-loop-k l = record {
  power : l.power ≡ l.fn.at ^ l.k % modulus;
  done : (j : ℕ) → j < l.k → get_or l.out j 0 ≡ l.fn.at ^ j % modulus;
}
