use Rattle.std.proofs.Common.{ℕ, ◌≡◌, ◌+◌, ◌%◌, ◌<◌, cond, ltb, length, get_or}
use Rattle.flp_generator.proofs.input.write_ones.Given as goal

abbrev pub invariant-loop-j : goal.invariant-loop-j
invariant-loop-j l = (i : ℕ) → i < l.j → get_or l.numbers i 0 ≡ cond (ltb ((i + l.k) % length l.fn.numbers) l.below) 1 0
