use Rattle.std.proofs.Common.{◌^◌}
use Rattle.flp_field.proofs.Congruence.{Same}
use Rattle.flp_field.proofs.word.Fe.shifted.Given as goal

abbrev pub invariant-loop : goal.invariant-loop
invariant-loop l = Same l.square (l.fn.self ^ (2 ^ l.counter))
