use Rattle.std.proofs.Common.{◌≡◌, take}
use Rattle.flp_jobs.proofs.words.write_numbers.Given as goal

abbrev pub invariant-loop-k : goal.invariant-loop-k
invariant-loop-k l = take l.k l.numbers ≡ take l.k l.words
