use Rattle.std.proofs.KnownBytes.{Keeps-refl}
use Rattle.flp_cli.proofs.StatusLemmas.{Appends-nothing}
use Rattle.flp_cli.proofs.commands.finish.Goals as goal

pub returns-in-Ok-clause-says : goal.returns-in-Ok-clause-says
returns-in-Ok-clause-says g c = rw c.in-Ok.is (λ _. Appends-nothing _ _ (Keeps-refl (g.E.Sink.taken c.args.errors.now)))
