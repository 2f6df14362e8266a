use Rattle.std.proofs.Common.{◌≡◌, All, vec_len}
use Rattle.flp_round.specs.Verifier.{IsFresh}
use Rattle.flp_round.proofs.crew.Crew.new.Given as goal

abbrev pub invariant-loop : goal.invariant-loop
invariant-loop l = (vec_len l.verifiers ≡ l.counter) × All (IsFresh l.plan l.shape l.room) l.verifiers.items
