use Rattle.std.proofs.Common.{◌≡◌, ◌*◌, Err, refl, ap, arith}
use Rattle.flp_io.proofs.ReadLemmas.{ConsumesAtMost-raised, ReadsFrom-as}
use Rattle.flp_report.specs.declared.fault.ReadFault.TheVariants as read
use Rattle.flp_report.specs.Job.{job_bytes_of}
use Rattle.flp_report.proofs.job_reader.Reader+S+JobShape.jobs.Goals as goal

pub returns-in-Err-clause-source : goal.returns-in-Err-clause-source
returns-in-Err-clause-source g c =
    let r = c.args.self.now in
    let wanted : c.from.result * c.bytes.result ≡ r.left * job_bytes_of r.parts = λ i. c.from.ensures i * c.bytes.ensures.bytes i in
    ReadsFrom-as c.in-Err.ensures.source (λ few. ConsumesAtMost-raised _ _ _ _ few (omega (arith, wanted))) (λ is. let same : c.in-Err.fault ≡ read.Failed = cc in ap Err same) (λ ok. ok)

pub returns-clause-source : goal.returns-clause-source
returns-clause-source g c =
    let r = c.args.self.now in
    let wanted : c.from.result * c.bytes.result ≡ r.left * job_bytes_of r.parts = λ i. c.from.ensures i * c.bytes.ensures.bytes i in
    ReadsFrom-as c.in-Ok.ensures.source (λ few. ConsumesAtMost-raised _ _ _ _ few (omega (arith, wanted))) (λ is. let no : ⊥ = cc in absurd no) (λ ok. refl)
