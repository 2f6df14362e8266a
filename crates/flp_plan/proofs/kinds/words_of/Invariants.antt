use Rattle.std.proofs.Common.{◌≡◌, take, map}
use Rattle.flp_meaning.specs.Circuit.{coefficient}
use Rattle.flp_plan.proofs.kinds.words_of.Given as goal

abbrev pub invariant-loop-coef : goal.invariant-loop-coef
invariant-loop-coef l = l.words.items ≡ map coefficient (take l.coef-index l.coefs)
