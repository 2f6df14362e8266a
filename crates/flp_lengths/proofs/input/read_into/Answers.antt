use Rattle.std.proofs.Common.{refl}
use Rattle.flp_io.proofs.ReadLemmas.{ReadsFrom-as}
use Rattle.flp_lengths.proofs.input.read_into.Goals as goal

pub returns-in-Ok-clause-source : goal.returns-in-Ok-clause-source
returns-in-Ok-clause-source g c = ReadsFrom-as c.in-Ok.ensures.source (λ few. few) (λ is. absurd (c.load_room.ensures.not_read is)) (λ no. absurd no)

pub returns-in-Err-clause-source : goal.returns-in-Err-clause-source
returns-in-Err-clause-source g c = ReadsFrom-as c.in-Err.ensures.source (λ few. few) (λ is. refl) (λ no. absurd no)
