use Rattle.std.proofs.Common.{ℕ, ◌≡◌, ◌%◌, ◌<◌, get_or}
use Rattle.flp_field.specs.Word.{modulus}
use Rattle.flp_query.proofs.wires.write_words.Given as goal

abbrev pub invariant-loop-j : goal.invariant-loop-j
invariant-loop-j l = (i : ℕ) → i < l.j → get_or l.out i 0 ≡ get_or l.sums i 0 % modulus
