use Rattle.std.proofs.Common.{ℕ, ◌≡◌, ◌+◌, ◌*◌, ◌<◌, get_or}
use Rattle.flp_prove.proofs.values.value_at_point.Given as goal

abbrev pub invariant-loop-input : goal.invariant-loop-input
invariant-loop-input l = (k : ℕ) → k < l.input → get_or l.inputs k 0 ≡ get_or l.wires (k * l.points + l.point) 0
