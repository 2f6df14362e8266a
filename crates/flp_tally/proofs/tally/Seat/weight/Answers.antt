use Rattle.std.proofs.Common.{subst}
use Rattle.flp_tally.specs.Views.{Owns}
use Rattle.flp_tally.specs.Held.{Held}
use Rattle.flp_tally.proofs.tally.Seat.weight.Goals as goal

pub returns-clause-owns : goal.returns-clause-owns
returns-clause-owns c = subst (λ (h : Held). Owns h.view) c.self.view_is c.self.invariant.3
