use Rattle.std.proofs.Common.{◌≤◌, length, arith}
use Rattle.flp_io.proofs.ReadLemmas.{ConsumesAtMost-raised, ConsumesAtMost-prefix, ReadsFrom-as}
use Rattle.flp_lengths.proofs.input.read_text.Goals as goal

pub returns-clause-source : goal.returns-clause-source
returns-clause-source g c =
    let size : length c.fill.new.buf ≤ 65537 = omega (arith, c.fill.auto.buf, c.requires.room) in
    ReadsFrom-as c.fill.ensures.source (λ front. ConsumesAtMost-raised _ _ _ _ (ConsumesAtMost-prefix _ _ _ front) size) (λ is. is) (λ no. absurd no)
