use Rattle.std.proofs.Common.{◌≤◌, length, refl, arith}
use Rattle.flp_io.proofs.ReadLemmas.{ConsumesAtMost-raised, ConsumesAtMost-prefix, ReadsFrom-as}
use Rattle.flp_report.proofs.read.read_whole.Goals as goal

pub returns-in-Err-clause-source : goal.returns-in-Err-clause-source
returns-in-Err-clause-source g c =
    let size : length c.fill.new.buf ≤ length c.args.buf.now = omega (arith, c.fill.auto.buf) in
    ReadsFrom-as c.in-Err.ensures.source (λ front. ConsumesAtMost-raised _ _ _ _ (ConsumesAtMost-prefix _ _ _ front) size) (λ is. refl) (λ ok. let no : ⊥ = cc in absurd no)

pub returns-then-count-buf-clause-source : goal.returns-then-count-buf-clause-source
returns-then-count-buf-clause-source g c =
    let size : length c.fill.new.buf ≤ length c.args.buf.now = omega (arith, c.fill.auto.buf) in
    ReadsFrom-as c.in-Ok.ensures.source (λ front. ConsumesAtMost-raised _ _ _ _ (ConsumesAtMost-prefix _ _ _ front) size) (λ is. let no : ⊥ = cc in absurd no) (λ ok. let no : ⊥ = cc in absurd no)

pub returns-clause-source : goal.returns-clause-source
returns-clause-source g c =
    let size : length c.fill.new.buf ≤ length c.args.buf.now = omega (arith, c.fill.auto.buf) in
    ReadsFrom-as c.in-Ok.ensures.source (λ front. ConsumesAtMost-raised _ _ _ _ (ConsumesAtMost-prefix _ _ _ front) size) (λ is. let no : ⊥ = cc in absurd no) (λ ok. omega arith)
