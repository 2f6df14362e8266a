use Rattle.std.proofs.Common.{◌++◌, refl}
use Rattle.flp_io.proofs.ReadLemmas.{ReadsFrom-as}
use Rattle.flp_report.proofs.JobHeadLemmas.{IsJobHead-joined}
use Rattle.flp_report.proofs.job_reader.Reader+S+JobShape.head.Goals as goal

pub returns-clause-bytes : goal.returns-clause-bytes
returns-clause-bytes g c =
    let head = c.read_head.new.head in
    let text = c.in-Ok.text.items in (
      head ++ text,
      rw (c.number_at-self.ensures, c.number_at-self-2.ensures, c.from_vec.ensures, c.number_at-self-3.ensures)
          (IsJobHead-joined head text c.read_head.auto.head c.in-Ok.ensures.text c.in-Ok.ensures.none),
      c.in-Ok.ensures.bytes,
    )

pub returns-clause-source : goal.returns-clause-source
returns-clause-source g c =
    ReadsFrom-as c.in-Ok.ensures.source (λ few. few) (λ is. let no : ⊥ = cc in absurd no) (λ ok. refl)
