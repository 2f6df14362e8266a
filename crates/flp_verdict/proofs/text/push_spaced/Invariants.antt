use Rattle.std.proofs.Common.{◌≡◌, ◌++◌, take}
use Rattle.flp_verdict.specs.Text.{spaced}
use Rattle.flp_verdict.proofs.text.push_spaced.Given as goal

abbrev pub invariant-loop-number : goal.invariant-loop-number
invariant-loop-number l = l.text.items ≡ l.initial.text.items ++ spaced (take l.number-index l.numbers)
