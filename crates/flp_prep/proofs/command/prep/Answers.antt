use Rattle.std.proofs.Common.{refl}
use Rattle.flp_prep.proofs.command.prep.Goals as goal

pub returns-clause-stopped : goal.returns-clause-stopped
returns-clause-stopped g c = c.perform.ensures.lines (λ by records. refl)
