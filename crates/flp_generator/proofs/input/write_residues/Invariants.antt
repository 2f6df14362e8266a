use Rattle.std.proofs.Common.{ℕ, ◌≡◌, ◌+◌, ◌%◌, ◌<◌, get_or}
use Rattle.flp_generator.proofs.input.write_residues.Given as goal

abbrev pub invariant-loop-j : goal.invariant-loop-j
invariant-loop-j l = (i : ℕ) → i < l.j → get_or l.numbers i 0 ≡ (l.k + i) % l.modulo
