use Rattle.std.proofs.Common.{ℕ, ◌<◌, get_or}
use Rattle.flp_field.specs.Word.{IsWord}
use Rattle.flp_field.proofs.laws.words.Given as goal

abbrev pub invariant-loop-x : goal.invariant-loop-x
invariant-loop-x l = (k d : ℕ) → k < l.x-index → IsWord (get_or l.values k d)
