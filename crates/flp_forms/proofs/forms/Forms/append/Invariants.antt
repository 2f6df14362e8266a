use Rattle.std.proofs.Common.{◌≡◌, ◌++◌, take}
use Rattle.flp_forms.proofs.forms.Forms.append.Given as goal

abbrev pub invariant-loop-index : goal.invariant-loop-index
invariant-loop-index l = l.self ≡ l.initial.self ++ take l.index l.other
